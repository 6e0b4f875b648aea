-- The nets of a legal design have one driver each.
use Rattle.std.proofs.Common.{◌≡◌, ◌∙◌, ◌+◌, ◌/◌, ◌<◌, ◌≤◌, ◌⊎◌, ◌++◌, ◌||◌, ℕ, suc, length, map}
use Rattle.std.proofs.Common.{get_or, min, flat_map, not, Bool, true, false, Contains, refl, sym, ap, subst, inl, inr, arith}
use Rattle.std.specs.Prelude.{IsTrue, ◌==◌, if◌then◌else◌, bytes_eq, codes}
use Rattle.std.specs.List.{list_all, range_with_len}
use Rattle.std.proofs.lemmas.Bool.{and_parts, and_from}
use Rattle.std.proofs.lemmas.List.{get_or_default}
use Rattle.std.proofs.lemmas.List.Elements.{Contains-append_left, Contains-append_right, Contains-append_cases}
use Rattle.pm_design.specs.declared.body.Block.{Block}
use Rattle.pm_design.specs.declared.body.BlockSort.{BlockSort}
use Rattle.pm_design.specs.declared.body.BlockSort.TheVariants as sort
use Rattle.pm_design.specs.declared.connection.Part.{Part}
use Rattle.pm_design.specs.declared.design.Design.{Design}
use Rattle.pm_design.specs.declared.design.Kind.{Kind}
use Rattle.pm_design.specs.declared.plan.Plan.{Plan}
use Rattle.pm_design.specs.declared.signal.Role.{Role}
use Rattle.pm_design.specs.declared.signal.Role.TheVariants as role
use Rattle.pm_design.specs.declared.signal.Signal.{Signal}
use Rattle.pm_design.specs.Elaborated.{IsElaborated}
use Rattle.pm_design.specs.Instances.{instances_of, own_bits}
use Rattle.pm_design.specs.Layout.{instance_of}
use Rattle.pm_design.specs.Lookups.{is_input, is_port, is_readable, is_whole, is_writable, kind_of, lies_within}
use Rattle.pm_design.specs.Lookups.{no_child, no_kind, no_signal, signal_of}
use Rattle.pm_design.specs.Runnable.{kind_at}
use Rattle.pm_design.specs.Settings.{progress_of}
use Rattle.pm_design.specs.Sound.{IsSound, block_sight, is_sound_block, may_write}
use Rattle.pm_design.specs.Typing.{is_sound}
use Rattle.pm_instances.specs.Laid.{laid_out}
use Rattle.pm_instances.proofs.Numbers.{item_passes}
use Rattle.pm_instances.proofs.Placed.{is_laid}
use Rattle.pm_nets.specs.declared.giver.Gift.{Gift}
use Rattle.pm_nets.specs.declared.giver.Giver.{Giver}
use Rattle.pm_nets.specs.declared.giver.Source.TheVariants as source
use Rattle.pm_nets.specs.Drivers.{inputs_from, whole_part}
use Rattle.pm_nets.specs.Ends.{end_of, ends_in, ends_joined, join_ends, reset_ends}
use Rattle.pm_nets.specs.Givers.{HasNoDouble, HasTwo, block_gifts, child_outputs, gift_givers, gifts_of, given_by}
use Rattle.pm_nets.specs.Givers.{givers_in, givers_of, source_parts, tie_gifts}
use Rattle.pm_nets.specs.Legal.{NamesPorts, driving, driving_gifts, driving_in, input_givers, joins_ports, ties_port}
use Rattle.pm_nets.specs.Links.{AreOneNet, join_links, links_in, links_of, reset_link, reset_part}
use Rattle.pm_nets.specs.Sites.{first_of}
use Rattle.pm_nets.specs.Written.{written_in}
use Rattle.pm_nets.proofs.Across.{IsSeen, IsWired, block_no_port, one_driver, tie_no_port}
use Rattle.pm_nets.proofs.Bodies.{body_writes}
use Rattle.pm_nets.proofs.Crossings.{IsCrossing, crossing_gives, part_seen}
use Rattle.pm_nets.proofs.DoubleBits.{half_end, whole_end}
use Rattle.pm_nets.proofs.Members.{from_flat, from_map, from_range, in_flat, in_map, in_range, passes}
use Rattle.pm_nets.proofs.Marking.{true_false}
use Rattle.pm_nets.proofs.Resets.{reset_lies}
use Rattle.pm_nets.proofs.Tops.{crossing_high, top_low}
use Rattle.pm_nets.proofs.Wires.{IsDriver, driver_is, some_instance}
use Rattle.pm_nets.proofs.Wires.IsDriver.{OfBlock, OfInput, OfTie}

input_port : (r : Role) → IsTrue (is_input r) → IsTrue (is_port r)
input_port role.Input input = refl
input_port role.Output input = absurd (true_false (sym input))
input_port role.Inner input = absurd (true_false (sym input))

or_right : (a b : Bool) → IsTrue b → IsTrue (a || b)
or_right true b h = refl
or_right false b h = h

-- what may be written may be read
writable_readable : (design : Design) (kind : Kind) (p : Part) → IsTrue (is_writable design kind p) →
    IsTrue (is_readable design kind p)
writable_readable design kind p writable =
    and_from (lies_within design kind p) (p.owner == 0 || is_port (signal_of design kind p).role) both.0
    (go (p.owner == 0) both.1)
  where
    both : IsTrue (lies_within design kind p) × IsTrue (if p.owner == 0
        then not (is_input (signal_of design kind p).role) else is_input (signal_of design kind p).role)
    both = and_parts (lies_within design kind p) _ writable

    go : (b : Bool) → IsTrue (if b then not (is_input (signal_of design kind p).role) else
        is_input (signal_of design kind p).role) → IsTrue (b || is_port (signal_of design kind p).role)
    go true h = refl
    go false h = input_port (signal_of design kind p).role h

may_readable : (design : Design) (kind : Kind) (s : BlockSort) (p : Part) → IsTrue (may_write design kind s p) →
    IsTrue (is_readable design kind p)
may_readable design kind sort.Update p may = writable_readable design kind p may
may_readable design kind sort.Once p may = writable_readable design kind p may
may_readable design kind sort.Edge p may =
    writable_readable design kind p (and_parts (is_writable design kind p) (is_whole design kind p) may).0

-- a part that a sound block may write
block_readable : (design : Design) (kind : Kind) (block : Block) (p : Part) →
    IsTrue (is_sound_block design kind block) → Contains (written_in block.body) p →
    IsTrue (is_readable design kind p)
block_readable design kind block p sound has =
    may_readable design kind block.sort p
    (passes (may_write design kind block.sort) (written_in block.body) p
    (body_writes block.body (block_sight design kind block)
    (and_parts (list_all (is_sound (block_sight design kind block)) block.body)
    (progress_of 0 block.body).fine sound).0) has)

kind_known : (design : Design) → IsElaborated design → (i : ℕ) → i < length (instances_of design) →
    (instance_of (laid_out design) i).kind < length design.kinds
kind_known design elaborated i lt = (is_laid design elaborated).kinds i lt

-- drivers are seen where they drive
drivers_seen : (design : Design) → IsSound design → NamesPorts design → (g : Giver) → IsDriver design g →
    IsSeen (IsCrossing design) g.end
drivers_seen design sound ports g (OfInput p input drives) =
    subst (λ (x : Giver). IsSeen (IsCrossing design) x.end) (sym drives.is)
    (subst (λ (q : Part). IsSeen (IsCrossing design) (end_of (laid_out design) 0 q drives.bit)) (sym input.is)
    (inl (omega arith)))
drivers_seen design sound ports g (OfTie i gift tie drives) =
    subst (λ (x : Giver). IsSeen (IsCrossing design) x.end) (sym drives.is)
    (part_seen design i gift.part drives.bit drives.there drives.below
    (subst (λ (x : Gift). IsTrue (is_readable design (kind_at (laid_out design) i) x.part)) (sym tie.is)
    (passes (ties_port design (kind_at (laid_out design) i)) (kind_at (laid_out design) i).ties tie.tie
    (ports.ties (instance_of (laid_out design) i).kind (kind_known design sound.elaborated i drives.there))
    tie.listed)))
drivers_seen design sound ports g (OfBlock i gift block drives) =
    subst (λ (x : Giver). IsSeen (IsCrossing design) x.end) (sym drives.is)
    (part_seen design i gift.part drives.bit drives.there drives.below
    (subst (λ (x : Gift). IsTrue (is_readable design (kind_at (laid_out design) i) x.part)) (sym block.is)
    (block_readable design (kind_at (laid_out design) i) block.block block.part
    (passes (is_sound_block design (kind_at (laid_out design) i)) (kind_at (laid_out design) i).blocks block.block
    (blocks_sound (instance_of (laid_out design) i).kind (kind_known design sound.elaborated i drives.there))
    block.listed) block.written)))
  where
    blocks_sound : (k : ℕ) → k < length design.kinds →
        IsTrue (list_all (is_sound_block design (kind_of design k)) (kind_of design k).blocks)
    blocks_sound k known =
        item_passes (λ (kind : Kind). list_all (is_sound_block design kind) kind.blocks) design.kinds k (kind_of design k)
        sound.blocks known (get_or_default design.kinds k no_kind (kind_of design k) known)

-- an input of the top is no port of a child
drivers_inner : (design : Design) → IsElaborated design → (g : Giver) → IsDriver design g →
    g.source ≡ source.Port → IsCrossing design (g.end / 2) → ⊥
drivers_inner design elaborated g (OfInput p input drives) port crossing =
    let high : own_bits (kind_at (laid_out design) 0) ≤ g.end / 2 = crossing_high design elaborated (g.end / 2) crossing in
    let named : p ≡ whole_part input.signal (get_or (kind_at (laid_out design) 0).signals input.signal no_signal).width =
    input.is ∙ ap (λ (k : ℕ). whole_part k
    (get_or (kind_at (laid_out design) 0).signals input.signal no_signal).width)
    (let e : 0 + input.signal ≡ input.signal = omega arith in e) in
    let wide : p.width ≡ (get_or (kind_at (laid_out design) 0).signals input.signal no_signal).width =
    ap (λ (q : Part). q.width) named in
    let below : drives.bit < p.width = drives.below in
    let half : g.end / 2 ≡ first_of (laid_out design) 0 (whole_part input.signal
    (get_or (kind_at (laid_out design) 0).signals input.signal no_signal).width) + drives.bit =
    ap (λ (x : Giver). x.end / 2) drives.is
    ∙ (ap (λ (q : Part). end_of (laid_out design) 0 q drives.bit / 2) named ∙ half_end 0 _) in
    let low = top_low design elaborated input.signal drives.bit (some_instance design elaborated) input.listed
    (omega arith) in
    apart _ _ _ high half low
  where
    apart : (x own at : ℕ) → own ≤ x → x ≡ at → at < own → ⊥
    apart x own at le is lt = omega arith
drivers_inner design elaborated g (OfTie i gift tie drives) port crossing =
    tie_no_port tie.number
    (sym (ap (λ (x : Gift). x.source) tie.is) ∙ (sym (ap (λ (x : Giver). x.source) drives.is) ∙ port))
drivers_inner design elaborated g (OfBlock i gift block drives) port crossing =
    block_no_port block.number
    (sym (ap (λ (x : Gift). x.source) block.is) ∙ (sym (ap (λ (x : Giver). x.source) drives.is) ∙ port))

-- drivers are givers
drivers_give : (design : Design) → IsElaborated design → (g : Giver) → Contains (driving (laid_out design)) g →
    Contains (givers_of (laid_out design)) g
drivers_give design elaborated g has =
    go (Contains-append_cases (input_givers (laid_out design))
    (flat_map (driving_in (laid_out design)) (range_with_len 0 (length (instances_of design)))) g has)
  where
    plan : Plan
    plan = laid_out design

    given : (i : ℕ) (gift : Gift) → Contains (range_with_len 0 (length (instances_of design))) i →
        Contains (gifts_of design (kind_at plan i)) gift → Contains (gift_givers plan i gift) g →
        Contains (givers_of plan) g
    given i gift there listed here =
        in_flat (givers_in plan) (range_with_len 0 (length (instances_of design))) i g there
        (in_flat (gift_givers plan i) (gifts_of design (kind_at plan i)) gift g listed here)

    go : Contains (input_givers plan) g ⊎
        Contains (flat_map (driving_in plan) (range_with_len 0 (length (instances_of design)))) g →
        Contains (givers_of plan) g
    go (inl top) =
        let kind = kind_at plan 0 in
        let found = from_flat (gift_givers plan 0) (given_by source.Port (inputs_from 0 (kind_at plan 0).signals)) g top in
        let part = from_map (λ (p : Part). record { source = source.Port; part = p })
        (inputs_from 0 (kind_at plan 0).signals) found.0 found.1 in
        given 0 found.0 (in_range (length (instances_of design)) 0 (some_instance design elaborated))
        (Contains-append_left
        (given_by source.Port (source_parts design (kind_at plan 0)) ++ tie_gifts 0 (kind_at plan 0).ties)
        (block_gifts 0 (kind_at plan 0).blocks) found.0
        (Contains-append_left (given_by source.Port (source_parts design (kind_at plan 0)))
        (tie_gifts 0 (kind_at plan 0).ties) found.0
        (subst (λ (x : Gift). Contains (given_by source.Port (source_parts design (kind_at plan 0))) x) part.2
        (in_map (λ (p : Part). record { source = source.Port; part = p }) (source_parts design (kind_at plan 0)) part.0
        (Contains-append_left (inputs_from 0 (kind_at plan 0).signals)
        (child_outputs design 1 (kind_at plan 0).children) part.0 part.1))))) found.2
    go (inr inner) =
        let at = from_flat (driving_in plan) (range_with_len 0 (length (instances_of design))) g inner in
        let found = from_flat (gift_givers plan at.0) (driving_gifts (kind_at plan at.0)) g at.2 in
        given at.0 found.0 at.1
        (listed (kind_at plan at.0) found.0
        (Contains-append_cases (tie_gifts 0 (kind_at plan at.0).ties) (block_gifts 0 (kind_at plan at.0).blocks) found.0
        found.1)) found.2
      where
        listed : (kind : Kind) (gift : Gift) →
            Contains (tie_gifts 0 kind.ties) gift ⊎ Contains (block_gifts 0 kind.blocks) gift →
            Contains (gifts_of design kind) gift
        listed kind gift (inl tie) =
            Contains-append_left (given_by source.Port (source_parts design kind) ++ tie_gifts 0 kind.ties)
            (block_gifts 0 kind.blocks) gift
            (Contains-append_right (given_by source.Port (source_parts design kind)) (tie_gifts 0 kind.ties) gift tie)
        listed kind gift (inr block) =
            Contains-append_right (given_by source.Port (source_parts design kind) ++ tie_gifts 0 kind.ties)
            (block_gifts 0 kind.blocks) gift block

-- the `reset` of a child may be read
reset_readable : (design : Design) → IsElaborated design → (i c : ℕ) → i < length (instances_of design) →
    c < length (kind_at (laid_out design) i).children →
    IsTrue (is_readable design (kind_at (laid_out design) i) (reset_part (suc c)))
reset_readable design elaborated i c lt ct =
    let child = (is_laid design elaborated).children i c lt ct in
    let k : ℕ = (get_or (kind_at (laid_out design) i).children c (no_child design.kinds)).kind in
    let known : k < length design.kinds =
    subst (λ (n : ℕ). n < length design.kinds) child.1 ((is_laid design elaborated).kinds _ child.0) in
    let s : Signal = get_or (kind_of design k).signals 0 no_signal in
    let more = (and_parts (bytes_eq s.name (codes "reset")) _ (elaborated.kinds k known).reset).1 in
    and_from (lies_within design (kind_at (laid_out design) i) (reset_part (suc c))) _
    (reset_lies design elaborated (kind_at (laid_out design) i) (suc c) k known refl)
    (or_right (suc c == 0) (is_port (signal_of design (kind_at (laid_out design) i) (reset_part (suc c))).role)
    (input_port s.role (and_parts (s.width == 1) (is_input s.role) more).1))

-- both ends of a connection are seen
ends_seen : (design : Design) → IsElaborated design → NamesPorts design → (e f : ℕ) →
    Contains (ends_joined (laid_out design)) (e, f) →
    IsSeen (IsCrossing design) e × IsSeen (IsCrossing design) f
unfolding ends_joined ends_in
ends_seen design elaborated ports e f has =
    go (Contains-append_cases (flat_map (join_ends plan at.0) (kind_at plan at.0).joins)
    (map (reset_ends plan at.0) (range_with_len 0 (length (kind_at plan at.0).children))) (e, f) at.2)
  where
    plan : Plan
    plan = laid_out design

    at : (i : ℕ) × Contains (range_with_len 0 (length (instances_of design))) i × Contains (ends_in (laid_out design) i) (e, f)
    at = from_flat (ends_in (laid_out design)) (range_with_len 0 (length (instances_of design))) (e, f) has

    there : at.0 < length (instances_of design)
    there = from_range (length (instances_of design)) at.0 at.1

    go : Contains (flat_map (join_ends plan at.0) (kind_at plan at.0).joins) (e, f) ⊎
        Contains (map (reset_ends plan at.0) (range_with_len 0 (length (kind_at plan at.0).children))) (e, f) →
        IsSeen (IsCrossing design) e × IsSeen (IsCrossing design) f
    go (inl joined) =
        let join = from_flat (join_ends plan at.0) (kind_at plan at.0).joins (e, f) joined in
        let bit = from_map (λ (t : ℕ). (end_of plan at.0 join.0.a t, end_of plan at.0 join.0.b t))
        (range_with_len 0 (min join.0.a.width join.0.b.width)) (e, f) join.2 in
        let below : bit.0 < min join.0.a.width join.0.b.width =
        from_range (min join.0.a.width join.0.b.width) bit.0 bit.1 in
        let readable = and_parts (is_readable design (kind_at plan at.0) join.0.a)
        (is_readable design (kind_at plan at.0) join.0.b)
        (passes (joins_ports design (kind_at plan at.0)) (kind_at plan at.0).joins join.0
        (ports.joins (instance_of plan at.0).kind (kind_known design elaborated at.0 there)) join.1) in
        subst (λ (q : ℕ × ℕ). IsSeen (IsCrossing design) q.0 × IsSeen (IsCrossing design) q.1) bit.2 (
          part_seen design at.0 join.0.a bit.0 there (omega arith) readable.0,
          part_seen design at.0 join.0.b bit.0 there (omega arith) readable.1,
        )
    go (inr reset) =
        let child = from_map (reset_ends plan at.0) (range_with_len 0 (length (kind_at plan at.0).children)) (e, f)
        reset in
        let below : child.0 < length (kind_at plan at.0).children =
        from_range (length (kind_at plan at.0).children) child.0 child.1 in
        subst (λ (q : ℕ × ℕ). IsSeen (IsCrossing design) q.0 × IsSeen (IsCrossing design) q.1) child.2 (
          inl (omega arith),
          part_seen design at.0 (reset_part (suc child.0)) 0 there (omega arith)
              (reset_readable design elaborated at.0 child.0 there below),
        )

-- each connection of flat bits is one of ends
pub links_halved : (plan : Plan) (a b : ℕ) → Contains (links_of plan) (a, b) →
    (p : ℕ × ℕ) × Contains (ends_joined plan) p × (p.0 / 2 ≡ a) × (p.1 / 2 ≡ b)
unfolding links_of links_in ends_joined ends_in
links_halved plan a b has =
    go (Contains-append_cases (flat_map (join_links plan at.0) (kind_at plan at.0).joins)
    (map (reset_link plan at.0) (range_with_len 0 (length (kind_at plan at.0).children))) (a, b) at.2)
  where
    at : (i : ℕ) × Contains (range_with_len 0 (length plan.instances)) i × Contains (links_in plan i) (a, b)
    at = from_flat (links_in plan) (range_with_len 0 (length plan.instances)) (a, b) has

    within : (p : ℕ × ℕ) → Contains (ends_in plan at.0) p → Contains (ends_joined plan) p
    within p here = in_flat (ends_in plan) (range_with_len 0 (length plan.instances)) at.0 p at.1 here

    go : Contains (flat_map (join_links plan at.0) (kind_at plan at.0).joins) (a, b) ⊎
        Contains (map (reset_link plan at.0) (range_with_len 0 (length (kind_at plan at.0).children))) (a, b) →
        (p : ℕ × ℕ) × Contains (ends_joined plan) p × (p.0 / 2 ≡ a) × (p.1 / 2 ≡ b)
    go (inl joined) =
        let join = from_flat (join_links plan at.0) (kind_at plan at.0).joins (a, b) joined in
        let bit = from_map (λ (t : ℕ). (first_of plan at.0 join.0.a + t, first_of plan at.0 join.0.b + t))
        (range_with_len 0 (min join.0.a.width join.0.b.width)) (a, b) join.2 in
        let p : ℕ × ℕ = (end_of plan at.0 join.0.a bit.0, end_of plan at.0 join.0.b bit.0) in (
          p,
          within p (Contains-append_left (flat_map (join_ends plan at.0) (kind_at plan at.0).joins)
              (map (reset_ends plan at.0) (range_with_len 0 (length (kind_at plan at.0).children))) p
              (in_flat (join_ends plan at.0) (kind_at plan at.0).joins join.0 p join.1
              (in_map (λ (t : ℕ). (end_of plan at.0 join.0.a t, end_of plan at.0 join.0.b t))
              (range_with_len 0 (min join.0.a.width join.0.b.width)) bit.0 bit.1))),
          half_end join.0.a.owner (first_of plan at.0 join.0.a + bit.0) ∙ ap (λ (q : ℕ × ℕ). q.0) bit.2,
          half_end join.0.b.owner (first_of plan at.0 join.0.b + bit.0) ∙ ap (λ (q : ℕ × ℕ). q.1) bit.2,
        )
    go (inr reset) =
        let child = from_map (reset_link plan at.0) (range_with_len 0 (length (kind_at plan at.0).children)) (a, b)
        reset in
        let p : ℕ × ℕ = reset_ends plan at.0 child.0 in
        let own : first_of plan at.0 (reset_part 0) + 0 ≡ first_of plan at.0 (reset_part 0) = omega arith in
        let other : first_of plan at.0 (reset_part (suc child.0)) + 0 ≡ first_of plan at.0 (reset_part (suc child.0)) =
        omega arith in (
          p,
          within p (Contains-append_right (flat_map (join_ends plan at.0) (kind_at plan at.0).joins)
              (map (reset_ends plan at.0) (range_with_len 0 (length (kind_at plan at.0).children))) p
              (in_map (reset_ends plan at.0) (range_with_len 0 (length (kind_at plan at.0).children)) child.0 child.1)),
          half_end 0 (first_of plan at.0 (reset_part 0) + 0) ∙ (own ∙ ap (λ (q : ℕ × ℕ). q.0) child.2),
          half_end (suc child.0) (first_of plan at.0 (reset_part (suc child.0)) + 0)
              ∙ (other ∙ ap (λ (q : ℕ × ℕ). q.1) child.2),
        )

-- the connections of a legal design are wired
design_wired : (design : Design) → IsSound design → NamesPorts design → HasNoDouble (laid_out design) →
    IsWired (ends_joined (laid_out design)) (links_of (laid_out design)) (givers_of (laid_out design))
    (driving (laid_out design)) (IsCrossing design)
design_wired design sound ports single = record {
  ends = ends_seen design sound.elaborated ports;
  halves = links_halved (laid_out design);
  gives = crossing_gives design sound.elaborated;
  among = drivers_give design sound.elaborated;
  seen = λ g has. drivers_seen design sound ports g (driver_is design sound.elaborated g has);
  inner = λ g has. drivers_inner design sound.elaborated g (driver_is design sound.elaborated g has);
  single = λ e two.
      let owner = whole_end e in
      single (e / 2) (
        owner.0,
        subst (λ (x : ℕ). HasTwo (ends_joined (laid_out design)) (givers_of (laid_out design)) x)
            (sym owner.1) two,
      );
}

pub net_driver : (design : Design) → IsSound design → NamesPorts design → HasNoDouble (laid_out design) →
    (a b : Giver) → Contains (driving (laid_out design)) a → Contains (driving (laid_out design)) b →
    AreOneNet (laid_out design) (a.end / 2) (b.end / 2) → a ≡ b
net_driver design sound ports single a b first second chain =
    one_driver (ends_joined (laid_out design)) (links_of (laid_out design)) (givers_of (laid_out design))
    (driving (laid_out design)) (IsCrossing design) (design_wired design sound ports single) a b first second chain
