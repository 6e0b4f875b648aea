-- A small legal design: a component adds 1 to its input, and its parent keeps the sum.
use Rattle.std.proofs.Common.{◌≡◌, ◌∙◌, ◌+◌, ◌-◌, ◌<◌, ◌≤◌, ◌^◌, ◌⊎◌, ◌++◌, ℕ, zero, suc, List, [], ◌∷◌, length, map, flat_map}
use Rattle.std.proofs.Common.{get_or, Bool, true, Contains, None, refl, sym, ap, ap₂, subst, inl, inr, arith, eqb-true}
use Rattle.std.specs.Prelude.{IsTrue, nat_lt, ◌==◌, if◌then◌else◌}
use Rattle.std.specs.List.{list_all, range_with_len}
use Rattle.std.proofs.lemmas.Bool.{cases_lt, lt-ltb, le-ltb}
use Rattle.std.proofs.lemmas.List.{get_or-map}
use Rattle.std.proofs.lemmas.List.Elements.{Contains-append_left, Contains-append_right}
use Rattle.disjoint_sets.specs.Connected.Connected.{Itself, Forward, Backward}
use Rattle.disjoint_sets.proofs.Chains.{same_along}
use Rattle.pm_callees.specs.Callees.{Finds as FindsCaller}
use Rattle.pm_callees.specs.Ends.{ends_of}
use Rattle.pm_design.specs.declared.connection.Part.{Part}
use Rattle.pm_design.specs.Instances.{instances_of}
use Rattle.pm_design.specs.Lookups.{kind_of}
use Rattle.pm_design.specs.Runnable.{kind_at}
use Rattle.pm_design.specs.Sample.{adder, adding, byte_of, keeper, keeping, sample}
use Rattle.pm_design.proofs.Counts.{nodes_bin, nodes_const, nodes_get, nodes_of_if, nodes_of_set, nodes_of_set_temp}
use Rattle.pm_design.proofs.Counts.{nodes_temp}
use Rattle.pm_design.proofs.Samples.{instances_of_sample, sample_sound}
use Rattle.pm_instances.specs.Laid.{laid_out}
use Rattle.pm_nets.specs.declared.check.Check.TheVariants as check
use Rattle.pm_nets.specs.declared.giver.Giver.{Giver}
use Rattle.pm_nets.specs.declared.giver.Source.{Source}
use Rattle.pm_nets.specs.declared.giver.Source.TheVariants as source
use Rattle.pm_nets.specs.Answers.{IsAccepted}
use Rattle.pm_nets.specs.Drivers.{HasNoUndriven, drivers_in, drivers_of, inputs_from, part_bits}
use Rattle.pm_nets.specs.Ends.{ends_in, ends_joined}
use Rattle.pm_nets.specs.Faults.{HasNoLine, lines_where}
use Rattle.pm_nets.specs.Givers.{HasNoDouble, gift_givers, given_by, givers_in, givers_of, source_parts, tie_gifts}
use Rattle.pm_nets.specs.Legal.{IsLegal, NamesPorts, joins_ports, ties_port}
use Rattle.pm_nets.specs.Links.{AreOneNet, links_in, links_of}
use Rattle.pm_nets.specs.Written.{written_in}
use Rattle.pm_work.specs.Work.{work_of}
use Rattle.pm_nets.proofs.Members.{from_flat, from_range, in_head, in_map, in_range, passes}
use Rattle.pm_nets.proofs.Writing.{written_if, written_set, written_temp}

-- the parts that its blocks write
keeping_writes : written_in keeping.body ≡ byte_of 0 2 ∷ byte_of 0 2 ∷ []
keeping_writes =
    ap (λ (ps : List Part). ps ++ []) (written_if _ _ _ ∙ ap₂ (λ (a b : List Part). a ++ b)
    (ap (λ (ps : List Part). ps ++ []) (written_set (byte_of 0 2) _))
    (ap (λ (ps : List Part). ps ++ []) (written_set (byte_of 0 2) _)))

adding_writes : written_in adding.body ≡ byte_of 0 2 ∷ []
adding_writes =
    ap₂ (λ (a b : List Part). a ++ (b ++ [])) (written_temp 0 _) (written_set (byte_of 0 2) _)

-- the least end of each end's net, within its component
roots : List ℕ
roots =
    0 ∷ 1 ∷ 2 ∷ 3 ∷ 4 ∷ 5 ∷ 6 ∷ 7 ∷ 8 ∷ 9 ∷ 10 ∷ 11 ∷ 12 ∷ 13 ∷ 14 ∷ 15 ∷ 16 ∷ 17 ∷ 18 ∷ 19 ∷ 20 ∷ 21 ∷ 22 ∷
    23 ∷ 24 ∷ 25 ∷ 26 ∷ 27 ∷ 28 ∷ 29 ∷ 30 ∷ 31 ∷ 32 ∷ 33 ∷ 34 ∷ 0 ∷ 36 ∷ 2 ∷ 38 ∷ 4 ∷ 40 ∷ 6 ∷ 42 ∷ 8 ∷ 44 ∷
    10 ∷ 46 ∷ 12 ∷ 48 ∷ 14 ∷ 50 ∷ 16 ∷ 52 ∷ 53 ∷ 54 ∷ 55 ∷ 56 ∷ 57 ∷ 58 ∷ 59 ∷ 60 ∷ 61 ∷ 62 ∷ 63 ∷ 64 ∷ 65 ∷
    66 ∷ 67 ∷ []

root : ℕ → ℕ
root e = get_or roots e e

-- what gives at each end
sources : List Source
sources =
    source.Port ∷ source.Port ∷ source.Port ∷ source.Port ∷ source.Port ∷ source.Port ∷ source.Port ∷
    source.Port ∷ source.Port ∷ source.Port ∷ source.Port ∷ source.Port ∷ source.Port ∷ source.Port ∷
    source.Port ∷ source.Port ∷ source.Port ∷ source.Port ∷ source.Block 0 ∷ source.Port ∷ source.Block 0 ∷
    source.Port ∷ source.Block 0 ∷ source.Port ∷ source.Block 0 ∷ source.Port ∷ source.Block 0 ∷ source.Port ∷
    source.Block 0 ∷ source.Port ∷ source.Block 0 ∷ source.Port ∷ source.Block 0 ∷ source.Port ∷ source.Port ∷
    source.Port ∷ source.Port ∷ source.Port ∷ source.Port ∷ source.Port ∷ source.Port ∷ source.Port ∷
    source.Port ∷ source.Port ∷ source.Port ∷ source.Port ∷ source.Port ∷ source.Port ∷ source.Port ∷
    source.Port ∷ source.Port ∷ source.Port ∷ source.Block 0 ∷ source.Port ∷ source.Block 0 ∷ source.Port ∷
    source.Block 0 ∷ source.Port ∷ source.Block 0 ∷ source.Port ∷ source.Block 0 ∷ source.Port ∷
    source.Block 0 ∷ source.Port ∷ source.Block 0 ∷ source.Port ∷ source.Block 0 ∷ source.Port ∷ []

-- what gives to the net of an end
normal : Giver → Giver
normal g = record { source = get_or sources (root g.end) source.Port; end = root g.end }

-- the connections keep the least ends
same_roots : (a b : ℕ) → Contains (ends_joined (laid_out sample)) (a, b) → root a ≡ root b
unfolding ends_joined ends_in root roots
same_roots a b has =
    eqb-true (root a) (root b)
    (passes (λ (p : ℕ × ℕ). root p.0 == root p.1) (ends_joined (laid_out sample)) (a, b) refl has)

-- what each instance gives
keeper_givers : List Part → List Giver
keeper_givers parts =
    flat_map (gift_givers (laid_out sample) 0) (given_by source.Port (source_parts sample keeper)
    ++ tie_gifts 0 keeper.ties ++ (given_by (source.Block 0) parts ++ []))

adder_givers : List Part → List Giver
adder_givers parts =
    flat_map (gift_givers (laid_out sample) 1) (given_by source.Port (source_parts sample adder)
    ++ tie_gifts 0 adder.ties ++ (given_by (source.Block 0) parts ++ []))

keeper_gives : givers_in (laid_out sample) 0 ≡ keeper_givers (byte_of 0 2 ∷ byte_of 0 2 ∷ [])
unfolding keeper_givers
keeper_gives = ap keeper_givers keeping_writes

adder_gives : givers_in (laid_out sample) 1 ≡ adder_givers (byte_of 0 2 ∷ [])
unfolding adder_givers
adder_gives = ap adder_givers adding_writes

keeper_normal : map normal (keeper_givers (byte_of 0 2 ∷ byte_of 0 2 ∷ [])) ≡
    keeper_givers (byte_of 0 2 ∷ byte_of 0 2 ∷ [])
unfolding keeper_givers normal root roots sources
keeper_normal = refl

adder_normal : map normal (adder_givers (byte_of 0 2 ∷ [])) ≡ adder_givers (byte_of 0 2 ∷ [])
unfolding adder_givers normal root roots sources
adder_normal = refl

each_normal : (gs : List Giver) (g : Giver) → map normal gs ≡ gs → Contains gs g → normal g ≡ g
each_normal gs g is has =
    ap normal (sym has.2) ∙ (sym (get_or-map normal gs has.0 g g has.1)
    ∙ (ap (λ (l : List Giver). get_or l has.0 g) is ∙ has.2))

given_normal : (i : ℕ) (g : Giver) → i < 2 → Contains (givers_in (laid_out sample) i) g → normal g ≡ g
given_normal zero g lt has =
    each_normal (keeper_givers (byte_of 0 2 ∷ byte_of 0 2 ∷ [])) g keeper_normal
    (subst (λ (l : List Giver). Contains l g) keeper_gives has)
given_normal (suc zero) g lt has =
    each_normal (adder_givers (byte_of 0 2 ∷ [])) g adder_normal
    (subst (λ (l : List Giver). Contains l g) adder_gives has)
given_normal (suc (suc i)) g lt has = absurd (omega arith)

all_normal : (g : Giver) → Contains (givers_of (laid_out sample)) g → normal g ≡ g
all_normal g has =
    let at = from_flat (givers_in (laid_out sample)) (range_with_len 0 (length (instances_of sample))) g has in
    let size : length (instances_of sample) ≡ 2 = ap length instances_of_sample in
    let below : at.0 < length (instances_of sample) = from_range (length (instances_of sample)) at.0 at.1 in
    given_normal at.0 g (omega arith) at.2

-- no net of a component has two givers
pub sample_single : HasNoDouble (laid_out sample)
unfolding normal
sample_single x double =
    let two = double.1 in
    let same = sym (same_along (ends_joined (laid_out sample)) root same_roots _ two.first.end two.first_in)
    ∙ same_along (ends_joined (laid_out sample)) root same_roots _ two.second.end two.second_in in
    two.differ (sym (all_normal two.first two.one)
    ∙ (ap (λ (r : ℕ). record { source = get_or sources r source.Port; end = r }) same
    ∙ all_normal two.second two.other))

-- the least flat bit of each net
net_root : ℕ → ℕ
net_root x = if nat_lt x 17 then x else if nat_lt x 26 then x - 17 else x

same_nets : (a b : ℕ) → Contains (links_of (laid_out sample)) (a, b) → net_root a ≡ net_root b
unfolding links_of links_in net_root
same_nets a b has =
    eqb-true (net_root a) (net_root b)
    (passes (λ (p : ℕ × ℕ). net_root p.0 == net_root p.1) (links_of (laid_out sample)) (a, b) refl has)

root_low : (x : ℕ) → x < 17 → net_root x ≡ x
unfolding net_root
root_low x lt = rw (lt-ltb x 17 lt) refl

root_middle : (x : ℕ) → 17 ≤ x → x < 26 → net_root x ≡ x - 17
unfolding net_root
root_middle x le lt = rw (le-ltb x 17 le, lt-ltb x 26 lt) refl

root_high : (x : ℕ) → 26 ≤ x → net_root x ≡ x
unfolding net_root
root_high x le = rw (le-ltb x 17 (omega arith), le-ltb x 26 le) refl

-- the inputs of the top drive its first nine bits
input_drives : (d : ℕ) → d < 9 → Contains (drivers_of (laid_out sample)) d
input_drives d lt =
    Contains-append_left (flat_map (part_bits (laid_out sample) 0) (inputs_from 0 keeper.signals))
    (flat_map (drivers_in (laid_out sample)) (range_with_len 0 (length (instances_of sample)))) d
    (subst (λ (l : List ℕ). Contains l d) listed (in_range 9 d lt))
  where
    listed : range_with_len 0 9 ≡ flat_map (part_bits (laid_out sample) 0) (inputs_from 0 keeper.signals)
    listed = refl

-- and they are joined to those of the child
all_links : links_of (laid_out sample) ≡ map (λ t. (1 + t, 18 + t)) (range_with_len 0 8) ++ (0, 17) ∷ []
unfolding links_of links_in
all_links = refl

input_linked : (d : ℕ) → d < 9 → Contains (links_of (laid_out sample)) (d, 17 + d)
input_linked d lt =
    subst (λ (l : List (ℕ × ℕ)). Contains {X = ℕ × ℕ} l (d, 17 + d)) (sym all_links) (go d lt)
  where
    go : (n : ℕ) → n < 9 →
        Contains {X = ℕ × ℕ} (map (λ t. (1 + t, 18 + t)) (range_with_len 0 8) ++ (0, 17) ∷ []) (n, 17 + n)
    go zero less =
        Contains-append_right (map (λ t. (1 + t, 18 + t)) (range_with_len 0 8)) ((0, 17) ∷ []) (0, 17)
        (in_head (0, 17) [])
    go (suc n) less =
        let first : 1 + n ≡ suc n = omega arith in
        let second : 18 + n ≡ 17 + suc n = omega arith in
        Contains-append_left (map (λ t. (1 + t, 18 + t)) (range_with_len 0 8)) ((0, 17) ∷ []) (suc n, 17 + suc n)
        (subst (λ (p : ℕ × ℕ). Contains (map (λ t. (1 + t, 18 + t)) (range_with_len 0 8)) p)
        (ap₂ (λ (a b : ℕ). (a, b)) first second)
        (in_map (λ (t : ℕ). (1 + t, 18 + t)) (range_with_len 0 8) n (in_range 8 n (omega arith))))

-- a bit that is of one net with another one is of one net with an input bit of the top
with_input : (x y : ℕ) → net_root x ≡ net_root y → (x ≡ y → ⊥) →
    (d : ℕ) × (d < 9) × AreOneNet (laid_out sample) x d
with_input x y same differ = go (cases_lt x 17) (cases_lt x 26) (cases_lt x 9)
  where
    other : (x ≤ 16) ⊎ (26 ≤ x) → 9 ≤ x → net_root x ≡ x → ⊥
    other where_ high own = by (cases_lt y 17) (cases_lt y 26)
      where
        by : (y < 17) ⊎ (17 ≤ y) → (y < 26) ⊎ (26 ≤ y) → ⊥
        by (inl low) rest = let e : net_root y ≡ y = root_low y low in differ (omega arith)
        by (inr le) (inl lt) = let e : net_root y ≡ y - 17 = root_middle y le lt in omega arith
        by (inr le) (inr past) = let e : net_root y ≡ y = root_high y past in differ (omega arith)

    go : (x < 17) ⊎ (17 ≤ x) → (x < 26) ⊎ (26 ≤ x) → (x < 9) ⊎ (9 ≤ x) →
        (d : ℕ) × (d < 9) × AreOneNet (laid_out sample) x d
    go low rest (inl lt) = (x, lt, Itself x)
    go (inl low) rest (inr high) = absurd (other (inl (omega arith)) high (root_low x low))
    go (inr le) (inl lt) high =
        let back : 17 + (x - 17) ≡ x = omega arith in
        let less : x - 17 < 9 = omega arith in (
          x - 17,
          less,
          Backward x (x - 17) (x - 17)
              (subst (λ (z : ℕ). Contains {X = ℕ × ℕ} (links_of (laid_out sample)) (x - 17, z)) back (input_linked (x - 17) less))
              (Itself (x - 17)),
        )
    go (inr le) (inr past) (inr high) = absurd (other (inr past) high (root_high x past))

-- each net of two or more bits is driven
pub sample_driven : HasNoUndriven (laid_out sample)
sample_driven x undriven =
    let same = same_along (links_of (laid_out sample)) net_root same_nets x undriven.other undriven.joined in
    let found = with_input x undriven.other same undriven.differ in
    undriven.none found.0 (input_drives found.0 found.1) found.2

pub sample_ports : NamesPorts sample
sample_ports = record { joins = joins; ties = ties }
  where
    joins : (k : ℕ) → k < 2 → IsTrue (list_all (joins_ports sample (kind_of sample k)) (kind_of sample k).joins)
    joins zero lt = refl
    joins (suc zero) lt = refl
    joins (suc (suc k)) lt = absurd (omega arith)

    ties : (k : ℕ) → k < 2 → IsTrue (list_all (ties_port sample (kind_of sample k)) (kind_of sample k).ties)
    ties zero lt = refl
    ties (suc zero) lt = refl
    ties (suc (suc k)) lt = absurd (omega arith)

pub sample_legal : IsLegal sample
sample_legal = record {
  sound = sample_sound;
  ports = sample_ports;
  single = sample_single;
  driven = sample_driven;
}

-- it passes all tests
sample_directed : HasNoLine sample check.Direction
unfolding lines_where
sample_directed zero known used = refl
sample_directed (suc zero) known used = refl
sample_directed (suc (suc k)) known used = absurd (omega arith)

sample_matched : HasNoLine sample check.Types
unfolding lines_where
sample_matched zero known used = refl
sample_matched (suc zero) known used = refl
sample_matched (suc (suc k)) known used = absurd (omega arith)

no_port : (i n : ℕ) → i < 2 → n < ends_of (kind_at (laid_out sample) i) true → ⊥
no_port zero n lt there = omega arith
no_port (suc zero) n lt there = omega arith
no_port (suc (suc i)) n lt there = omega arith

sample_callable : FindsCaller (laid_out sample) None
sample_callable p port =
    let size : length (instances_of sample) ≡ 2 = ap length instances_of_sample in
    let there : p.instance < length (instances_of sample) = port.1.0 in
    absurd (no_port p.instance p.number (omega arith)
    (subst (λ (b : Bool). p.number < ends_of (kind_at (laid_out sample) p.instance) b) port.0 port.1.1))

sample_light : work_of sample ≤ 2 ^ 24
unfolding work_of
sample_light =
    simp (nodes_of_set, nodes_of_set_temp, nodes_of_if, nodes_const, nodes_get, nodes_temp, nodes_bin) (omega arith)

pub sample_accepted : IsAccepted sample
sample_accepted =
    ((((((omega arith, sample_directed), sample_matched), sample_single), sample_driven), sample_callable), sample_light)

-- two of its flat bits are of one net
pub sample_joined : AreOneNet (laid_out sample) 0 17
sample_joined = Forward 0 17 17 (input_linked 0 (omega arith)) (Itself 17)

pub ruleset sample_laws = (sample_legal, sample_accepted, sample_joined)
