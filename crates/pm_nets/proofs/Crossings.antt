-- The bits that two components see: those of children's ports.
use Rattle.std.proofs.Common.{◌≡◌, ◌+◌, ◌*◌, ◌/◌, ◌<◌, ◌≤◌, ◌⊎◌, ◌++◌, ◌||◌, ℕ, zero, suc, List, [], ◌∷◌, length}
use Rattle.std.proofs.Common.{get_or, Bool, true, false, Contains, refl, sym, ap, subst, inl, inr, arith, leb-true, ne_eqb}
use Rattle.std.specs.Prelude.{IsTrue, nat_lt, nat_le, ◌==◌, if◌then◌else◌}
use Rattle.std.specs.List.{range_with_len}
use Rattle.std.proofs.lemmas.Bool.{and_parts}
use Rattle.std.proofs.lemmas.List.Elements.{Contains-append_left, Contains-append_right}
use Rattle.pm_design.specs.declared.connection.Part.{Part}
use Rattle.pm_design.specs.declared.design.Child.{Child}
use Rattle.pm_design.specs.declared.design.Design.{Design}
use Rattle.pm_design.specs.declared.design.Kind.{Kind}
use Rattle.pm_design.specs.declared.plan.Plan.{Plan}
use Rattle.pm_design.specs.declared.signal.Role.{Role}
use Rattle.pm_design.specs.declared.signal.Role.TheVariants as role
use Rattle.pm_design.specs.declared.signal.Signal.{Signal}
use Rattle.pm_design.specs.Calls.{child_of}
use Rattle.pm_design.specs.Elaborated.{IsElaborated}
use Rattle.pm_design.specs.Instances.{first_bits_of, instances_of}
use Rattle.pm_design.specs.Layout.{instance_of, scope_of}
use Rattle.pm_design.specs.Lookups.{is_input, is_port, is_readable, kind_of, lies_within, no_child, no_signal}
use Rattle.pm_design.specs.Lookups.{owner_kind_of, signal_of}
use Rattle.pm_design.specs.Runnable.{kind_at}
use Rattle.pm_instances.specs.Laid.{laid_out}
use Rattle.pm_nets.specs.declared.giver.Gift.{Gift}
use Rattle.pm_nets.specs.declared.giver.Source.TheVariants as source
use Rattle.pm_nets.specs.Drivers.{input_part, inputs_from, whole_part}
use Rattle.pm_nets.specs.Ends.{end_of}
use Rattle.pm_nets.specs.Faults.{is_output}
use Rattle.pm_nets.specs.Givers.{block_gifts, child_outputs, gift_givers, gifts_of, given_by, givers_in, givers_of}
use Rattle.pm_nets.specs.Givers.{output_part, outputs_from, source_parts, tie_gifts}
use Rattle.pm_nets.specs.Sites.{first_of}
use Rattle.pm_nets.proofs.Across.{IsSeen, port_at}
use Rattle.pm_nets.proofs.Marking.{true_false}
use Rattle.pm_nets.proofs.Members.{in_flat, in_head, in_map, in_range}
use Rattle.pm_nets.proofs.Parts.{HasOwner, child_there, has_owner, signal_there}

-- all bits of a signal of an instance's child
abbrev pub child_part : Design → ℕ → ℕ → ℕ → Part
child_part design i c s = record {
  owner = suc c;
  signal = s;
  lo = 0;
  width = (get_or (owner_kind_of design (kind_at (laid_out design) i) (suc c)).signals s no_signal).width;
}

-- a flat bit of a port of an instance's child
pub record IsCrossing (design : Design) (b : ℕ) : Type 0 where
  pub instance : ℕ
  pub child : ℕ
  pub signal : ℕ
  pub bit : ℕ
  pub there : instance < length (instances_of design)
  pub listed : signal < length (owner_kind_of design (kind_at (laid_out design) instance) (suc child)).signals
  pub port : IsTrue (is_port (get_or (owner_kind_of design (kind_at (laid_out design) instance)
      (suc child)).signals signal no_signal).role)
  pub below : bit < (child_part design instance child signal).width
  pub place : b ≡ first_of (laid_out design) instance (child_part design instance child signal) + bit

-- an end of a part that a component may read is seen
seen_at : (design : Design) (i owner signal lo width t : ℕ) → i < length (instances_of design) → t < width →
    IsTrue (is_readable design (kind_at (laid_out design) i)
    (record { owner = owner; signal = signal; lo = lo; width = width })) →
    IsSeen (IsCrossing design)
    (end_of (laid_out design) i (record { owner = owner; signal = signal; lo = lo; width = width }) t)
seen_at design i zero signal lo width t lt less readable = inl (omega arith)
seen_at design i (suc c) signal lo width t lt less readable = inr (subst (IsCrossing design) half (record {
  instance = i;
  child = c;
  signal = signal;
  bit = lo + t;
  there = lt;
  listed = signal_there design (kind_at (laid_out design) i) part within;
  port = subst (λ (b : Bool). IsTrue (b || is_port (signal_of design (kind_at (laid_out design) i) part).role))
      (ne_eqb (suc c) 0 other)
      (and_parts (lies_within design (kind_at (laid_out design) i) part)
      (suc c == 0 || is_port (signal_of design (kind_at (laid_out design) i) part).role) readable).1;
  below =
      let fits : lo + width ≤ (signal_of design (kind_at (laid_out design) i) part).width =
      leb-true (lo + width) (signal_of design (kind_at (laid_out design) i) part).width
      (and_parts (nat_lt 0 width)
      (nat_le (lo + width) (signal_of design (kind_at (laid_out design) i) part).width) within).1 in
      omega arith;
  place = omega arith;
}))
  where
    part : Part
    part = record { owner = suc c; signal = signal; lo = lo; width = width }

    within : IsTrue (lies_within design (kind_at (laid_out design) i) part)
    within = (and_parts (lies_within design (kind_at (laid_out design) i) part) _ readable).0

    other : suc c ≡ 0 → ⊥
    other e = omega arith

    half : first_of (laid_out design) i part + t ≡ (2 * (first_of (laid_out design) i part + t) + 1) / 2
    half = omega arith

pub part_seen : (design : Design) (i : ℕ) (part : Part) (t : ℕ) → i < length (instances_of design) → t < part.width →
    IsTrue (is_readable design (kind_at (laid_out design) i) part) →
    IsSeen (IsCrossing design) (end_of (laid_out design) i part t)
part_seen design i part t lt less readable =
    seen_at design i part.owner part.signal part.lo part.width t lt less readable

-- an output is among the outputs, and an input among the inputs
outputs_have : (owner n s m : ℕ) (ss : List Signal) → s < length ss → m ≡ n + s →
    IsTrue (is_output (get_or ss s no_signal).role) →
    Contains (outputs_from owner n ss)
    (record { owner = owner; signal = m; lo = 0; width = (get_or ss s no_signal).width })
outputs_have owner n s m [] lt is output = absurd (omega arith)
outputs_have owner n zero m (x ∷ xs) lt is output =
    let first : n ≡ m = omega arith in
    Contains-append_left (output_part owner n x) (outputs_from owner (n + 1) xs) _
    (subst (λ (k : ℕ). Contains (output_part owner n x)
    (record { owner = owner; signal = k; lo = 0; width = x.width })) first
    (kept (is_output x.role) (record { owner = owner; signal = n; lo = 0; width = x.width }) output))
  where
    kept : (b : Bool) (p : Part) → IsTrue b → Contains (if b then p ∷ [] else []) p
    kept true p passed = in_head p []
    kept false p passed = absurd (true_false (sym passed))
outputs_have owner n (suc s) m (x ∷ xs) lt is output =
    Contains-append_right (output_part owner n x) (outputs_from owner (n + 1) xs) _
    (outputs_have owner (n + 1) s m xs (omega arith) (omega arith) output)

inputs_have : (n s m : ℕ) (ss : List Signal) → s < length ss → m ≡ n + s →
    IsTrue (is_input (get_or ss s no_signal).role) →
    Contains (inputs_from n ss) (whole_part m (get_or ss s no_signal).width)
inputs_have n s m [] lt is input = absurd (omega arith)
inputs_have n zero m (x ∷ xs) lt is input =
    let first : n ≡ m = omega arith in
    Contains-append_left (input_part n x) (inputs_from (n + 1) xs) _
    (subst (λ (k : ℕ). Contains (input_part n x) (whole_part k x.width)) first
    (kept (is_input x.role) (whole_part n x.width) input))
  where
    kept : (b : Bool) (p : Part) → IsTrue b → Contains (if b then p ∷ [] else []) p
    kept true p passed = in_head p []
    kept false p passed = absurd (true_false (sym passed))
inputs_have n (suc s) m (x ∷ xs) lt is input =
    Contains-append_right (input_part n x) (inputs_from (n + 1) xs) _
    (inputs_have (n + 1) s m xs (omega arith) (omega arith) input)

children_have : (design : Design) (n c m : ℕ) (cs : List Child) (p : Part) → c < length cs → m ≡ n + c →
    Contains (outputs_from m 0 (kind_of design (get_or cs c (no_child design.kinds)).kind).signals) p →
    Contains (child_outputs design n cs) p
children_have design n c m [] p lt is has = absurd (omega arith)
children_have design n zero m (x ∷ xs) p lt is has =
    let first : m ≡ n = omega arith in
    Contains-append_left (outputs_from n 0 (kind_of design x.kind).signals) (child_outputs design (n + 1) xs) p
    (subst (λ (k : ℕ). Contains (outputs_from k 0 (kind_of design x.kind).signals) p) first has)
children_have design n (suc c) m (x ∷ xs) p lt is has =
    Contains-append_right (outputs_from n 0 (kind_of design x.kind).signals) (child_outputs design (n + 1) xs) p
    (children_have design (n + 1) c m xs p (omega arith) (omega arith) has)

-- a bit of a source of an instance's kind has a giver
source_gives : (design : Design) (i : ℕ) (part : Part) (t : ℕ) → i < length (instances_of design) →
    t < part.width → Contains (source_parts design (kind_at (laid_out design) i)) part →
    Contains (givers_of (laid_out design)) (port_at (end_of (laid_out design) i part t))
source_gives design i part t lt less has =
    in_flat (givers_in plan) (range_with_len 0 (length plan.instances)) i _
    (in_range (length plan.instances) i lt)
    (in_flat (gift_givers plan i) (gifts_of design kind) gift _
    (Contains-append_left (given_by source.Port (source_parts design kind) ++ tie_gifts 0 kind.ties)
    (block_gifts 0 kind.blocks) gift
    (Contains-append_left (given_by source.Port (source_parts design kind)) (tie_gifts 0 kind.ties) gift
    (in_map (λ (p : Part). record { source = source.Port; part = p }) (source_parts design kind) part has)))
    (in_map (λ (u : ℕ). record { source = source.Port; end = end_of plan i part u }) (range_with_len 0 part.width) t
    (in_range part.width t less)))
  where
    plan : Plan
    plan = laid_out design

    kind : Kind
    kind = kind_at (laid_out design) i

    gift : Gift
    gift = record { source = source.Port; part = part }

-- a port gives in the component that has it, or in the one around it
pub crossing_gives : (design : Design) → IsElaborated design → (b : ℕ) → IsCrossing design b →
    Contains (givers_of (laid_out design)) (port_at (2 * b)) ⊎
    Contains (givers_of (laid_out design)) (port_at (2 * b + 1))
crossing_gives design elaborated b crossing = go signal.role refl crossing.port
  where
    i : ℕ
    i = crossing.instance

    c : ℕ
    c = crossing.child

    s : ℕ
    s = crossing.signal

    plan : Plan
    plan = laid_out design

    ss : List Signal
    ss = (owner_kind_of design (kind_at (laid_out design) crossing.instance) (suc crossing.child)).signals

    signal : Signal
    signal = get_or (owner_kind_of design (kind_at (laid_out design) crossing.instance) (suc crossing.child)).signals
        crossing.signal no_signal

    owned : HasOwner design crossing.instance (suc crossing.child)
    owned = has_owner design elaborated crossing.instance (suc crossing.child) crossing.signal crossing.there
        crossing.listed

    j : ℕ
    j = child_of (laid_out design) crossing.instance crossing.child

    outer : IsTrue (is_output signal.role) → Contains (givers_of (laid_out design)) (port_at (2 * b + 1))
    outer output =
        let is : 2 * (first_of (laid_out design) crossing.instance
        (child_part design crossing.instance crossing.child crossing.signal) + crossing.bit) + 1 ≡ 2 * b + 1 =
        ap (λ (x : ℕ). 2 * x + 1) (sym crossing.place) in
        subst (λ (e : ℕ). Contains (givers_of (laid_out design)) (port_at e)) is
        (source_gives design i (child_part design i c s) crossing.bit crossing.there crossing.below
        (Contains-append_right (inputs_from 0 (kind_at plan i).signals)
        (child_outputs design 1 (kind_at plan i).children) (child_part design i c s)
        (children_have design 1 c (suc c) (kind_at plan i).children (child_part design i c s)
        (child_there design (kind_at plan i) c s crossing.listed) (omega arith)
        (outputs_have (suc c) 0 s s ss crossing.listed (omega arith) output))))

    inner : IsTrue (is_input signal.role) → Contains (givers_of (laid_out design)) (port_at (2 * b))
    inner input =
        let same : get_or (get_or (scope_of plan i) (suc c) []) s 0 ≡
        get_or (first_bits_of design (instance_of plan j)) s 0 = ap (λ (l : List ℕ). get_or l s 0) owned.scope in
        let place : b ≡ get_or (get_or (scope_of plan i) (suc c) []) s 0 + 0 + crossing.bit = crossing.place in
        let is : 2 * (get_or (first_bits_of design (instance_of plan j)) s 0 + 0 + crossing.bit) ≡ 2 * b = omega arith in
        subst (λ (e : ℕ). Contains (givers_of (laid_out design)) (port_at e)) is
        (source_gives design j (whole_part s signal.width) crossing.bit owned.there crossing.below
        (Contains-append_left (inputs_from 0 (kind_at plan j).signals)
        (child_outputs design 1 (kind_at plan j).children) (whole_part s signal.width)
        (subst (λ (k : Kind). Contains (inputs_from 0 k.signals) (whole_part s signal.width)) (sym owned.kind)
        (inputs_have 0 s s ss crossing.listed (omega arith) input))))

    go : (r : Role) → signal.role ≡ r → IsTrue (is_port r) →
        Contains (givers_of (laid_out design)) (port_at (2 * b)) ⊎
        Contains (givers_of (laid_out design)) (port_at (2 * b + 1))
    go role.Input is port = inl (inner (subst (λ (r : Role). IsTrue (is_input r)) (sym is) refl))
    go role.Output is port = inr (outer (subst (λ (r : Role). IsTrue (is_output r)) (sym is) refl))
    go role.Inner is port = absurd (true_false (sym port))
