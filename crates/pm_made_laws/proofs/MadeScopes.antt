-- What bodies see in a design that is given is as typing asks.
use Rattle.std.proofs.Common.{◌≡◌, ◌∙◌, ◌<◌, ◌==◌, ◌&&◌, ◌||◌, ℕ, zero, suc, Bool, true, false, List, [], ◌∷◌}
use Rattle.std.proofs.Common.{refl, sym, subst, map, ap, length, arith}
use Rattle.std.specs.Prelude.{Option, Some, None, Ok, Err, nat_lt, nat_le, is_some, slice_get, slice_index_or, IsTrue}
use Rattle.std.specs.Prelude.{if◌then◌else◌}
use Rattle.std.specs.List.{list_all}
use Rattle.std.proofs.lemmas.Bool.{and_parts}
use Rattle.std.proofs.lemmas.Option.{same_Some}
use Rattle.pm_design.specs.declared.connection.Callee.TheVariants as callee
use Rattle.pm_design.specs.declared.design.Child.{Child}
use Rattle.pm_design.specs.declared.design.Design.{Design}
use Rattle.pm_design.specs.declared.design.Kind.{Kind}
use Rattle.pm_design.specs.declared.design.State.{State}
use Rattle.pm_design.specs.declared.signal.Role.{Role}
use Rattle.pm_design.specs.declared.signal.Role.TheVariants as role
use Rattle.pm_design.specs.declared.signal.Signal.{Signal}
use Rattle.pm_design.specs.Elaborated.{is_good_state}
use Rattle.pm_design.specs.Lookups.{is_readable, no_signal, signal_of}
use Rattle.pm_design.specs.Lookups as lookup
use Rattle.pm_design.specs.Widths.{is_width}
use Rattle.pm_values.specs.declared.reference.Reference.{Reference}
use Rattle.pm_values.specs.declared.reference.ValueType.{ValueType}
use Rattle.pm_values.specs.declared.value.Taken.{Taken}
use Rattle.pm_values.specs.declared.value.Taken.TheVariants as taken
use Rattle.pm_values.specs.declared.value.Value.{Value}
use Rattle.pm_values.specs.Tables.{Names}
use Rattle.pm_elab.specs.declared.elaboration.Elaboration.{Elaboration}
use Rattle.pm_elab.specs.declared.elaboration.MadeKind.{MadeKind}
use Rattle.pm_elab.specs.declared.elaboration.RawDesign.{RawDesign}
use Rattle.pm_elab.specs.declared.elaboration.RawKind.{RawKind}
use Rattle.pm_elab.specs.declared.frame.Local.{Local}
use Rattle.pm_elab.specs.Elab.{Checked, and_then}
use Rattle.pm_elab.specs.Files.{Globals, build, design_of}
use Rattle.pm_elab.specs.Views.{is_port, kind_of_child, taken_viewed}
use Rattle.pm_elab_laws.specs.Names.{names_of}
use Rattle.pm_elab_laws.proofs.EqualValues.{both}
use Rattle.pm_elab_laws.proofs.Fits.{Extends, child_kind, keeps_same, owner_of, role_fits, sees, sees_in, shape_fits}
use Rattle.pm_elab_laws.proofs.Fits.{taken_fits, taken_more, tests, type_fits, type_good_here, type_tests}
use Rattle.pm_elab_laws.proofs.FittingValues.{design_made, signal_parts, taken_above}
use Rattle.pm_elab_laws.proofs.Given.{callee_good, got, owner_there, params_good}
use Rattle.pm_elab_laws.proofs.Joined.{IsKindSound}
use Rattle.pm_elab_laws.proofs.Keeping.{On, Each}
use Rattle.pm_elab_laws.proofs.Kept.{IsKept, extends_made, signal_fits}
use Rattle.pm_elab_laws.proofs.Sounding.{HasFitLocals, file_sound, kind_more, locals_more, names_fit}
use Rattle.pm_elab_laws.proofs.Sounding as sounding
use Rattle.pm_elab_laws.proofs.Tests.{Good, free, held, never, plain}
use Rattle.pm_typing.specs.declared.scope.BodySort.{BodySort}
use Rattle.pm_typing.specs.References.{type_of}
use Rattle.pm_typing.specs.Sites.{Scope}
use Rattle.pm_type_laws.specs.Good.{has_type, has_values, is_childs, is_own, is_reference, is_told}
use Rattle.pm_elab_laws.specs.Told.{is_told_of}
use Rattle.pm_type_laws.specs.Good.{is_type, is_value, of_child}
use Rattle.pm_made_laws.specs.Scopes.{ScopesAreMade}
use Rattle.pm_made_laws.proofs.NotedKinds.{child_so, kinds_signals, reference_so}
use Rattle.pm_made_laws.proofs.PackedShapes.{bitstructs_packed, each_name, fills_so}
use Rattle.pm_made_laws.proofs.SeenValues.{value_seen}

-- ---- what a component sees

ports_same : (r : Role) → is_port r ≡ lookup.is_port r
ports_same role.Input = refl
ports_same role.Output = refl
ports_same role.Inner = refl

-- an own signal or a port, as the reference tells
role_seen : (d : Design) (kind : Kind) (r : Reference) → role_fits d kind r ≡ true
    → ((r.part.owner == 0 || lookup.is_port (signal_of d kind r.part).role) ≡ true)
    × (is_told_of r (signal_of d kind r.part) ≡ true)
role_seen d kind r is = by (owner_of d kind r.part.owner) refl is
  where
    Seen : Signal → Type 0
    Seen s = ((r.part.owner == 0 || lookup.is_port s.role) ≡ true) × (is_told_of r s ≡ true)

    next : (k : Kind) (s : Option Signal) → slice_get k.signals r.part.signal ≡ s
        → sees (is_told_of r) (r.part.owner == 0) s ≡ true
        → Seen (slice_index_or k.signals r.part.signal no_signal)
    next k None at is = never is
    next k (Some s) at is =
        let parts = and_parts (is_told_of r s) (r.part.owner == 0 || is_port s.role) is in
        subst Seen (sym (got k.signals r.part.signal no_signal s at))
        (subst (λ (b : Bool). (r.part.owner == 0 || b) ≡ true) (ports_same s.role) parts.1, parts.0)

    by : (k : Option Kind) → owner_of d kind r.part.owner ≡ k
        → sees_in (is_told_of r) (r.part.owner == 0) r.part.signal k ≡ true
        → Seen (signal_of d kind r.part)
    by None at is = never is
    by (Some k) at is =
        subst (λ (k : Kind). Seen (slice_index_or k.signals r.part.signal no_signal))
        (sym (owner_there d kind r.part.owner k at)) (next k (slice_get k.signals r.part.signal) refl is)

-- a type that fits is there
pub type_is : (d : Design) (t : ValueType) → type_fits d t ≡ true → is_type d.shapes t ≡ true
type_is d t is =
    let parts = and_parts (is_width t.width) (shape_fits d t.width t.shape) is in
    both (is_width t.width) _ parts.0 (fills_so d t.width t.shape parts.1)

-- the first number, and the others
abbrev first : List ℕ → ℕ
first [] = 0
first (n ∷ ns) = n

abbrev others : List ℕ → List ℕ
others [] = []
others (n ∷ ns) = ns

abbrev is_empty : List ℕ → Bool
is_empty [] = true
is_empty (n ∷ ns) = false

-- a state with its type
state_typed : (d : Design) (kind : Kind) (ss : List State) (ts : List ValueType) (i : ℕ)
    → map (λ (s : State). s.width) ss ≡ map (λ (t : ValueType). t.width) ts → list_all is_good_state ss ≡ true
    → list_all (type_fits d) ts ≡ true → is_some (slice_get ss i) ≡ true
    → has_type d.shapes (slice_get ts i) (slice_get ss i) ≡ true
state_typed d kind [] ts i same good fit there = never there
state_typed d kind (s ∷ ss) [] i same good fit there = never (ap is_empty same)
state_typed d kind (s ∷ ss) (t ∷ ts) zero same good fit there =
    let state = and_parts (is_good_state s) (list_all is_good_state ss) good in
    let width = and_parts (is_width s.width) (nat_le s.maxlen 64 && (nat_lt 0 s.maxlen || s.start.width == s.width))
    state.0 in
    let few = and_parts (nat_le s.maxlen 64) (nat_lt 0 s.maxlen || s.start.width == s.width) width.1 in
    let type = and_parts (type_fits d t) (list_all (type_fits d) ts) fit in
    let equal : s.width ≡ t.width = ap first same in
    let wide : (t.width == s.width) ≡ true = grind (arith, equal) in
    both (t.width == s.width) _ wide (both (nat_le s.maxlen 64) _ few.0 (type_is d t type.0))
state_typed d kind (s ∷ ss) (t ∷ ts) (suc i) same good fit there =
    state_typed d kind ss ts i (ap others same) (and_parts (is_good_state s) (list_all is_good_state ss) good).1
    (and_parts (type_fits d t) (list_all (type_fits d) ts) fit).1 there

-- ---- scopes

module _ (given : RawDesign) (kind : Kind) (raw : RawKind) (own : Names ℕ) (sort : BodySort)
    (kept : IsKept given.design kind raw)
    (signals : (i : ℕ) (k : Kind) → slice_get given.design.kinds i ≡ Some k → list_all (signal_fits given.design)
    k.signals ≡ true) where
  abbrev d : Design
  d = given.design

  abbrev scope : Scope
  scope = record { design = given; kind = kind; raw = raw; own = own; sort = sort }

  types_seen : (t : ValueType) → type_fits d t ≡ true → is_type d.shapes t ≡ true
  types_seen t is = type_is d t is

  pub reference_seen : (r : Reference) → taken_fits d kind (taken.Signal r) ≡ true → is_reference scope r ≡ true
  reference_seen r is =
      let parts = signal_parts d kind r is in
      let lies = and_parts (lookup.lies_within d kind r.part) (is_type d.shapes (type_of r))
      (reference_so d kind kept.signals signals r is) in
      let seen = role_seen d kind r parts.2 in
      both (is_readable d kind r.part && is_told scope r) _
      (both (is_readable d kind r.part) (is_told scope r)
      (both (lookup.lies_within d kind r.part) _ lies.0 seen.0) seen.1) lies.1

  own_seen : (t : Taken) → taken_fits d kind t ≡ true → is_own scope t ≡ true
  own_seen (taken.Signal r) is = reference_seen r is
  own_seen (taken.Child c) is = child_so d kind kept.signals signals kind.children c is
  own_seen (taken.State s) is = state_typed d kind kind.states raw.states s kept.state_types kept.states
      kept.states_fit is
  own_seen (taken.Method c) is = callee_good d kind c is
  own_seen (taken.Descendant c) is = refl
  own_seen (taken.FarSignal r) is = refl
  own_seen taken.FarState is = refl
  own_seen taken.FarMethod is = refl

  locals_seen : (names : Names Local) → Each (λ (l : List ℕ × Local). Good (tests d kind) free l.1.value) names
      → list_all (λ (l : List ℕ × Local). is_value scope None l.1.value) names ≡ true
  locals_seen [] each = refl
  locals_seen (l ∷ ls) each = both (is_value scope None l.1.value) _
      (value_seen (tests d kind) scope None types_seen own_seen l.1.value free each.0) (locals_seen ls each.1)

  attributes_seen : (names : Names Value) → Each (λ (a : List ℕ × Value). Good (tests d kind) held a.1) names
      → list_all (λ (a : List ℕ × Value). is_value scope None a.1) names ≡ true
  attributes_seen [] each = refl
  attributes_seen (a ∷ more) each = both (is_value scope None a.1) _
      (value_seen (tests d kind) scope None types_seen own_seen a.1 held each.0) (attributes_seen more each.1)

  names_seen : (names : Globals) → Each (λ (n : List ℕ × Value). Good (tests d kind) plain n.1) names
      → list_all (λ (n : List ℕ × Value). is_value scope None n.1) names ≡ true
  names_seen [] each = refl
  names_seen (n ∷ ns) each = both (is_value scope None n.1) _
      (value_seen (tests d kind) scope None types_seen own_seen n.1 plain each.0) (names_seen ns each.1)

  -- ---- children

  module _ (c : ℕ) (below : Kind)
      (above : (t : Taken) → taken_fits d below t ≡ true → is_childs scope c t ≡ true) where
    child_seen : (names : Names Value) → Each (λ (a : List ℕ × Value). Good (tests d below) held a.1) names
        → list_all (λ (a : List ℕ × Value). is_value scope (Some c) a.1) names ≡ true
    child_seen [] each = refl
    child_seen (a ∷ more) each = both (is_value scope (Some c) a.1) _
        (value_seen (tests d below) scope (Some c) types_seen above a.1 held each.0) (child_seen more each.1)

-- ---- kinds that were made

-- the kind of a number that was made, by what is noted of it
found_made : (P : MadeKind → Type 0) (ks : List MadeKind) → Each P ks → (i : ℕ) (raw : RawKind)
    → slice_get (map (λ (made : MadeKind). made.raw) ks) i ≡ Some raw
    → (k : MadeKind) × (slice_get (map (λ (made : MadeKind). made.kind) ks) i ≡ Some k.kind) × (k.raw ≡ raw) × P k
found_made P [] each i raw at = never (ap is_some at)
found_made P (k ∷ ks) each zero raw at = (k, refl, same_Some k.raw raw at, each.0)
found_made P (k ∷ ks) each (suc i) raw at = found_made P ks each.1 i raw at

-- a child that is there
child_at : (cs : List Child) (c : ℕ) → c < length cs → (x : Child) × (slice_get cs c ≡ Some x)
child_at [] c less = absurd (omega (arith, less))
child_at (x ∷ cs) zero less = (x, refl)
child_at (x ∷ cs) (suc c) less = child_at cs c (omega (arith, less))

-- its kind
child_kind_at : (cs : List Child) (c : ℕ) (x : Child) → slice_get cs c ≡ Some x → kind_of_child cs c ≡ x.kind
unfolding kind_of_child
child_kind_at cs c x at = ap (λ (o : Option Child). elim o as (λ _. ℕ) [ Some c ↦ c.kind | None ↦ 0 ]) at

-- what a body sees but for the bitstructs
record IsSeen (scope : Scope) : Type 0 where
  names : IsTrue (list_all (λ n. is_value scope None n.1) scope.design.names)
  locals : IsTrue (list_all (λ l. is_value scope None l.1.value) scope.raw.locals)
  own : IsTrue (has_values scope None scope.raw)
  children : (k : ℕ) (raw : RawKind) → k < length scope.kind.children
      → slice_get scope.design.kinds (kind_of_child scope.kind.children k) ≡ Some raw
      → IsTrue (has_values scope (Some k) raw)

-- every body of a design sees such things
abbrev AreSeen : RawDesign → Type 0
AreSeen r = (k : ℕ) (kind : Kind) (raw : RawKind) (own : Names ℕ) (sort : BodySort)
    → slice_get r.design.kinds k ≡ Some kind → slice_get r.kinds k ≡ Some raw
    → IsSeen (record { design = r; kind = kind; raw = raw; own = own; sort = sort })

-- a kind that was made fits, and so do its last names
abbrev IsFound : Design → MadeKind → Type 0
IsFound d k = IsKindSound d k × HasFitLocals d k

module _ (m : Elaboration) (names : Globals) (top : ℕ) (made : sounding.IsMade m)
    (fit : Each (λ (p : List ℕ × Value). Good (type_tests (design_made m)) plain p.1) names) where
  abbrev given : RawDesign
  given = design_of m names top

  abbrev e : Design
  e = given.design

  abbrev before : Design
  before = design_made m

  grown : (kind : Kind) → Extends before e kind kind
  grown kind = extends_made before e kind (keeps_same before.kinds) (keeps_same before.shapes)

  back : (kind : Kind) → Extends e before kind kind
  back kind = extends_made e before kind (keeps_same before.kinds) (keeps_same before.shapes)

  sound_there : (ks : List MadeKind) → Each (IsKindSound before) ks → Each (IsKindSound e) ks
  sound_there [] each = tt
  sound_there (k ∷ ks) each =
      (kind_more before e k (keeps_same before.kinds) (keeps_same before.shapes) each.0, sound_there ks each.1)

  found_there : (ks : List MadeKind) → Each (IsKindSound before) ks → Each (HasFitLocals before) ks
      → Each (IsFound e) ks
  found_there [] first second = tt
  found_there (k ∷ ks) first second = (
    (
      kind_more before e k (keeps_same before.kinds) (keeps_same before.shapes) first.0,
      locals_more before e k (keeps_same before.kinds) (keeps_same before.shapes) second.0,
    ),
    found_there ks first.1 second.1,
  )

  signals_there : (i : ℕ) (k : Kind) → slice_get e.kinds i ≡ Some k → list_all (signal_fits e) k.signals ≡ true
  signals_there = kinds_signals e m.kinds (sound_there m.kinds made.kinds)

  names_there : (kind : Kind) (ns : Globals)
      → Each (λ (p : List ℕ × Value). Good (type_tests before) plain p.1) ns
      → Each (λ (p : List ℕ × Value). Good (tests e kind) plain p.1) ns
  names_there kind [] each = tt
  names_there kind (n ∷ ns) each =
      (type_good_here before e kind kind (grown kind) n.1 plain each.0, names_there kind ns each.1)

  module _ (k : MadeKind) (is : IsFound e k) (own : Names ℕ) (sort : BodySort) where
    abbrev here : Scope
    here = record { design = given; kind = k.kind; raw = k.raw; own = own; sort = sort }

    -- what a child's attribute has taken
    childs_seen : (c : ℕ) (x : MadeKind)
        → child_kind before (slice_get k.kind.children c) ≡ Some x.kind → (t : Taken) → taken_fits e x.kind t ≡ true
        → is_childs here c t ≡ true
    childs_seen c x at t fits =
        by t (taken_more before e k.kind k.kind (grown k.kind)
        (taken_viewed (record { child = Some c; children = x.kind.children }) t)
        (taken_above m made.shapes k.kind c x at t (taken_more e before x.kind x.kind (back x.kind) t fits)))
      where
        chosen : (r : Reference) (b : Bool)
            → taken_fits e k.kind (if b then taken.Signal (of_child c r) else taken.FarSignal r) ≡ true
            → (if b then is_reference here (of_child c r) else true) ≡ true
        chosen r true fits = reference_seen given k.kind k.raw own sort is.0.0 signals_there (of_child c r) fits
        chosen r false fits = refl

        by : (t : Taken)
            → taken_fits e k.kind (taken_viewed (record { child = Some c; children = x.kind.children }) t) ≡ true
            → is_childs here c t ≡ true
        by (taken.Signal r) fits = chosen r (r.part.owner == 0 && is_port r.role) fits
        by (taken.Child n) fits = refl
        by (taken.State s) fits = refl
        by (taken.Method (callee.Own n)) fits = callee_good e k.kind (callee.Child c n) fits
        by (taken.Method (callee.Port p)) fits = callee_good e k.kind (callee.ChildPort c p) fits
        by (taken.Method (callee.Child y z)) fits = refl
        by (taken.Method (callee.ChildPort y z)) fits = refl
        by (taken.Descendant n) fits = refl
        by (taken.FarSignal r) fits = refl
        by taken.FarState fits = refl
        by taken.FarMethod fits = refl

    -- a child
    child_made : (c : ℕ) (raw : RawKind) → c < length k.kind.children
        → slice_get given.kinds (kind_of_child k.kind.children c) ≡ Some raw
        → has_values here (Some c) raw ≡ true
    child_made c raw less at =
        let child = child_at k.kind.children c less in
        let number = child_kind_at k.kind.children c child.0 child.1 in
        let found = found_made (IsKindSound e) m.kinds (sound_there m.kinds made.kinds) child.0.kind raw
        (subst (λ (n : ℕ). slice_get given.kinds n ≡ Some raw) number at) in
        subst (λ (raw : RawKind). has_values here (Some c) raw ≡ true) found.2
        (child_seen given k.kind k.raw own sort is.0.0 signals_there c found.0.kind
        (childs_seen c found.0 (ap (child_kind before) child.1 ∙ found.1)) found.0.raw.attributes found.3.1)

    made_seen : IsSeen here
    made_seen = record {
      names = names_seen given k.kind k.raw own sort is.0.0 signals_there names (names_there k.kind names fit);
      locals = locals_seen given k.kind k.raw own sort is.0.0 signals_there k.raw.locals is.1;
      own = attributes_seen given k.kind k.raw own sort is.0.0 signals_there k.raw.attributes is.0.1;
      children = child_made;
    }

  design_seen : AreSeen given
  design_seen k kind raw own sort first second =
      let found = found_made (IsFound e) m.kinds (found_there m.kinds made.kinds made.locals) k raw second in
      subst (λ (kind : Kind). IsSeen (record { design = given; kind = kind; raw = raw; own = own; sort = sort }))
      (same_Some found.0.kind kind (sym found.1 ∙ first))
      (subst (λ (raw : RawKind). IsSeen (record {
        design = given;
        kind = found.0.kind;
        raw = raw;
        own = own;
        sort = sort;
      })) found.2 (made_seen found.0 found.3 own sort))

-- the design of what was made
all_seen : (r : Checked ((Globals × ℕ) × Elaboration)) → On r (λ x. sounding.IsMade x.1)
    → On r (λ x. Each (λ (p : List ℕ × Value). Good (type_tests (design_made x.1)) plain p.1) x.0.0)
    → On (and_then r (λ x. Ok (design_of x.1 x.0.0 x.0.1))) AreSeen
all_seen (Ok x) made fit = design_seen x.1 x.0.0 x.0.1 made fit
all_seen (Err e) made fit = tt

pub scopes_made : ScopesAreMade
unfolding build
scopes_made nodes name params given names good is k kind raw own sort first second =
    let seen = subst (λ (r : Checked RawDesign). On r AreSeen) is
    (all_seen _ (file_sound nodes name params (each_name (names_of nodes) names) (params_good params good))
    (names_fit nodes name params (each_name (names_of nodes) names) (params_good params good))) in
    let this = seen k kind raw own sort first second in
    record {
      shapes = bitstructs_packed nodes name params given names good is;
      names = this.names;
      locals = this.locals;
      own = this.own;
      children = this.children;
    }
