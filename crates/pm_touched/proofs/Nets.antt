-- What blocks do with nets, and with flat bits.
use Rattle.std.proofs.Common.{◌≡◌, ◌∙◌, ◌⊎◌, ◌==◌, ℕ, List, [], ◌∷◌, map, Bool, true, false}
use Rattle.std.proofs.Common.{refl, sym, ap, subst, inl, inr, eqb-true, arith}
use Rattle.std.specs.List.{list_any}
use Rattle.std.proofs.lemmas.Bool.{both_ways, or_cases, or_left, or_right}
use Rattle.pm_design.specs.declared.plan.Flat.{Flat}
use Rattle.pm_design.specs.declared.plan.Plan.{Plan}
use Rattle.pm_design.specs.Runnable.{block_at}
use Rattle.pm_block.specs.Plans.{world_of}
use Rattle.pm_block.specs.Value.{World}
use Rattle.pm_touched.specs.Blocks.{HasNets, net_at, flat_world, flat_paths, net_paths}
use Rattle.pm_touched.specs.Events.{Place, Event, Path, is_read, is_written, is_same, reads_on, writes_on}
use Rattle.pm_touched.specs.Events.Event.{Read, Write, MayWrite}
use Rattle.pm_touched.specs.Events.Place.{Bit, Object}
use Rattle.pm_touched.specs.Renaming.{renamed_place, renamed_event, renamed_path, renamed_world}
use Rattle.pm_touched.specs.Paths.{paths_of}
use Rattle.pm_touched.proofs.Renamed.{paths_are_renamed}

-- the net of a bit
record OfNet (f : ℕ → ℕ) (net : ℕ) (Holds : ℕ → Type 0) : Type 0 where
  pub bit : ℕ
  pub net_is : f bit ≡ net
  pub holds : Holds bit

eqb_itself : (n : ℕ) → (n == n) ≡ true
eqb_itself n = grind arith

-- some of what is renamed passes for a net, where some passes for a bit of it
any_back : {X : Type 0} (h : ℕ → X → Bool) (r : X → X) (f : ℕ → ℕ) (net : ℕ) →
    ((x : X) → h net (r x) ≡ true → OfNet f net (λ bit. h bit x ≡ true)) →
    (xs : List X) → list_any (h net) (map r xs) ≡ true → OfNet f net (λ bit. list_any (h bit) xs ≡ true)
any_back h r f net each [] e = absurd (both_ways false refl e)
any_back h r f net each (x ∷ xs) e =
    go (any_back h r f net each xs) (or_cases (h net (r x)) (list_any (h net) (map r xs)) e)
  where
    go : (list_any (h net) (map r xs) ≡ true → OfNet f net (λ bit. list_any (h bit) xs ≡ true)) →
        (h net (r x) ≡ true) ⊎ (list_any (h net) (map r xs) ≡ true) →
        OfNet f net (λ bit. list_any (h bit) (x ∷ xs) ≡ true)
    go later (inl here) =
        let one = each x here in
        record {
          bit = one.bit;
          net_is = one.net_is;
          holds = or_left (h one.bit x) (list_any (h one.bit) xs) one.holds;
        }
    go later (inr there) =
        let one = later there in
        record {
          bit = one.bit;
          net_is = one.net_is;
          holds = or_right (h one.bit x) (list_any (h one.bit) xs) one.holds;
        }

any_on : {X : Type 0} (h : ℕ → X → Bool) (r : X → X) (net bit : ℕ) →
    ((x : X) → h bit x ≡ true → h net (r x) ≡ true) →
    (xs : List X) → list_any (h bit) xs ≡ true → list_any (h net) (map r xs) ≡ true
any_on h r net bit each [] e = absurd (both_ways false refl e)
any_on h r net bit each (x ∷ xs) e =
    go (any_on h r net bit each xs) (or_cases (h bit x) (list_any (h bit) xs) e)
  where
    go : (list_any (h bit) xs ≡ true → list_any (h net) (map r xs) ≡ true) →
        (h bit x ≡ true) ⊎ (list_any (h bit) xs ≡ true) → list_any (h net) (map r (x ∷ xs)) ≡ true
    go later (inl here) = or_left (h net (r x)) (list_any (h net) (map r xs)) (each x here)
    go later (inr there) = or_right (h net (r x)) (list_any (h net) (map r xs)) (later there)

-- places
same_back : (f : ℕ → ℕ) (net : ℕ) (y : Place) → is_same (Bit net) (renamed_place f y) ≡ true →
    OfNet f net (λ bit. is_same (Bit bit) y ≡ true)
same_back f net (Bit b) e = record { bit = b; net_is = sym (eqb-true net (f b) e); holds = eqb_itself b }
same_back f net (Object k) e = absurd (both_ways false refl e)

same_on : (f : ℕ → ℕ) (net bit : ℕ) → f bit ≡ net → (y : Place) → is_same (Bit bit) y ≡ true →
    is_same (Bit net) (renamed_place f y) ≡ true
same_on f net bit is (Bit b) e =
    subst (λ (n : ℕ). (n == f b) ≡ true) (ap f (sym (eqb-true bit b e)) ∙ is) (eqb_itself (f b))
same_on f net bit is (Object k) e = absurd (both_ways false refl e)

-- events
read_back : (f : ℕ → ℕ) (net : ℕ) (e : Event) → is_read (Bit net) (renamed_event f e) ≡ true →
    OfNet f net (λ bit. is_read (Bit bit) e ≡ true)
read_back f net (Read y) e = same_back f net y e
read_back f net (Write y) e = absurd (both_ways false refl e)
read_back f net (MayWrite y) e = absurd (both_ways false refl e)

read_on : (f : ℕ → ℕ) (net bit : ℕ) → f bit ≡ net → (e : Event) → is_read (Bit bit) e ≡ true →
    is_read (Bit net) (renamed_event f e) ≡ true
read_on f net bit is (Read y) e = same_on f net bit is y e
read_on f net bit is (Write y) e = absurd (both_ways false refl e)
read_on f net bit is (MayWrite y) e = absurd (both_ways false refl e)

write_back : (f : ℕ → ℕ) (net : ℕ) (e : Event) → is_written (Bit net) (renamed_event f e) ≡ true →
    OfNet f net (λ bit. is_written (Bit bit) e ≡ true)
write_back f net (Read y) e = absurd (both_ways false refl e)
write_back f net (Write y) e = same_back f net y e
write_back f net (MayWrite y) e = same_back f net y e

write_on : (f : ℕ → ℕ) (net bit : ℕ) → f bit ≡ net → (e : Event) → is_written (Bit bit) e ≡ true →
    is_written (Bit net) (renamed_event f e) ≡ true
write_on f net bit is (Read y) e = absurd (both_ways false refl e)
write_on f net bit is (Write y) e = same_on f net bit is y e
write_on f net bit is (MayWrite y) e = same_on f net bit is y e

-- paths
paths_back : (h : Place → Event → Bool) (f : ℕ → ℕ) (net : ℕ) →
    ((e : Event) → h (Bit net) (renamed_event f e) ≡ true → OfNet f net (λ bit. h (Bit bit) e ≡ true)) →
    (paths : List Path) → list_any (list_any (h (Bit net))) (map (renamed_path f) paths) ≡ true →
    OfNet f net (λ bit. list_any (list_any (h (Bit bit))) paths ≡ true)
paths_back h f net each paths =
    any_back (λ n. list_any (h (Bit n))) (renamed_path f) f net
    (any_back (λ n. h (Bit n)) (renamed_event f) f net each) paths

paths_on : (h : Place → Event → Bool) (f : ℕ → ℕ) (net bit : ℕ) →
    ((e : Event) → h (Bit bit) e ≡ true → h (Bit net) (renamed_event f e) ≡ true) →
    (paths : List Path) → list_any (list_any (h (Bit bit))) paths ≡ true →
    list_any (list_any (h (Bit net))) (map (renamed_path f) paths) ≡ true
paths_on h f net bit each paths =
    any_on (λ n. list_any (h (Bit n))) (renamed_path f) net bit
    (any_on (λ n. h (Bit n)) (renamed_event f) net bit each) paths

-- a plan's nets are other numbers of its flat bits
world_renamed : (plan : Plan) → world_of plan ≡ renamed_world (net_at plan) (flat_world plan)
unfolding world_of
world_renamed plan = refl

nets_renamed : (plan : Plan) (block : Flat) →
    net_paths plan block ≡ map (renamed_path (net_at plan)) (flat_paths plan block)
nets_renamed plan block =
    subst (λ (world : World). paths_in world ≡ map (renamed_path (net_at plan)) (flat_paths plan block))
    (sym (world_renamed plan))
    (paths_are_renamed (net_at plan) (flat_world plan) block.instance (block_at plan block).body)
  where
    paths_in : World → List Path
    paths_in world = paths_of world block.instance (block_at plan block).body

pub has_nets : (plan : Plan) (block : Flat) (net : ℕ) → HasNets plan block net
has_nets plan block net = record {
  reads = (
    λ is. pair (paths_back is_read (net_at plan) net (read_back (net_at plan) net) (flat_paths plan block)
        (subst (λ (ps : List Path). list_any (reads_on (Bit net)) ps ≡ true) (nets_renamed plan block) is)),
    λ is. subst (λ (ps : List Path). list_any (reads_on (Bit net)) ps ≡ true) (sym (nets_renamed plan block))
        (paths_on is_read (net_at plan) net is.0 (read_on (net_at plan) net is.0 is.1) (flat_paths plan block) is.2),
  );
  writes = (
    λ is. pair (paths_back is_written (net_at plan) net (write_back (net_at plan) net) (flat_paths plan block)
        (subst (λ (ps : List Path). list_any (writes_on (Bit net)) ps ≡ true) (nets_renamed plan block) is)),
    λ is. subst (λ (ps : List Path). list_any (writes_on (Bit net)) ps ≡ true) (sym (nets_renamed plan block))
        (paths_on is_written (net_at plan) net is.0 (write_on (net_at plan) net is.0 is.1) (flat_paths plan block) is.2),
  );
}
  where
    pair : {Holds : ℕ → Type 0} → OfNet (net_at plan) net Holds →
        (bit : ℕ) × (net_at plan bit ≡ net) × Holds bit
    pair one = (one.bit, one.net_is, one.holds)
