-- What is noted of each kind of a design that is given.
use Rattle.std.proofs.Common.{◌≡◌, ◌∙◌, ◌+◌, ◌<◌, ◌≤◌, ◌&&◌, ℕ, zero, suc, Bool, true, List, [], ◌∷◌, refl, sym}
use Rattle.std.proofs.Common.{subst, map}
use Rattle.std.proofs.Common.{ap, ap₂, length, arith, leb-true, ltb-true}
use Rattle.std.specs.Prelude.{Option, Some, None, Ok, Err, nat_lt, nat_le, is_some, slice_get}
use Rattle.std.specs.List.{list_all}
use Rattle.std.proofs.lemmas.Bool.{and_parts}
use Rattle.std.proofs.lemmas.Option.{same_Some, slice_get_within}
use Rattle.pm_design.specs.declared.connection.Part.{Part}
use Rattle.pm_design.specs.declared.design.Child.{Child}
use Rattle.pm_design.specs.declared.design.Design.{Design}
use Rattle.pm_design.specs.declared.design.Kind.{Kind}
use Rattle.pm_design.specs.declared.signal.Signal.{Signal}
use Rattle.pm_design.specs.Lookups.{listed}
use Rattle.pm_design.specs.Widths.{is_width}
use Rattle.pm_values.specs.declared.reference.CallerTypes.{CallerTypes}
use Rattle.pm_values.specs.declared.reference.Reference.{Reference}
use Rattle.pm_values.specs.declared.reference.ValueType.{ValueType}
use Rattle.pm_values.specs.declared.value.Member.{Member, fold-Member, fold_out-Member}
use Rattle.pm_values.specs.declared.value.Taken.{Taken}
use Rattle.pm_values.specs.declared.value.Taken.TheVariants as taken
use Rattle.pm_values.specs.declared.value.Value.{Value, Value-F, fold-roll-Value, roll-Value}
use Rattle.pm_values.specs.declared.value.Value.TheFolds.{map-Value}
use Rattle.pm_elab.specs.declared.body.Argument.{Argument}
use Rattle.pm_elab.specs.declared.body.MethodTypes.{MethodTypes}
use Rattle.pm_elab.specs.declared.elaboration.Elaboration.{Elaboration}
use Rattle.pm_elab.specs.declared.elaboration.MadeKind.{MadeKind}
use Rattle.pm_elab.specs.declared.elaboration.RawDesign.{RawDesign}
use Rattle.pm_elab.specs.declared.elaboration.RawKind.{RawKind}
use Rattle.pm_elab.specs.Connections.{types_of_caller, types_of_method, type_list}
use Rattle.pm_elab.specs.Elab.{Checked, and_then}
use Rattle.pm_elab.specs.Files.{Globals, build, design_of}
use Rattle.pm_elab.specs.Placing.{width_if}
use Rattle.pm_elab.specs.Values.{member_sort}
use Rattle.pm_elab_laws.specs.Names.{names_of}
use Rattle.pm_elab_laws.proofs.EqualValues.{both}
use Rattle.pm_elab_laws.proofs.Fits.{CallWidths, Keeps, bits_in, good_more, keeps_same, owner_of, part_fits}
use Rattle.pm_elab_laws.proofs.Fits.{shape_fits, signal_in, taken_fits, tests, type_fits}
use Rattle.pm_elab_laws.proofs.Fits as fits
use Rattle.pm_elab_laws.proofs.FittingValues.{design_made, signal_parts}
use Rattle.pm_elab_laws.proofs.Given.{callee_good, params_good, part_good}
use Rattle.pm_elab_laws.proofs.Joined.{IsKindSound}
use Rattle.pm_elab_laws.proofs.Keeping.{On, Each}
use Rattle.pm_elab_laws.proofs.Kept.{call_widths, signal_fits}
use Rattle.pm_elab_laws.proofs.Sounding.{IsMade, file_sound, kind_more}
use Rattle.pm_elab_laws.proofs.Tests.{Good, GoodLayer, Parts, each_value, held, never, opened_layer}
use Rattle.pm_type_laws.specs.Good.{is_type}
use Rattle.pm_made_laws.specs.Noted.{IsNoted, KindsAreNoted, Widths, caller_widths, is_reference, is_taken, is_value}
use Rattle.pm_made_laws.specs.Noted.{is_value_of}
use Rattle.pm_made_laws.specs.Noted.{method_widths, noted_caller, noted_method}
use Rattle.pm_made_laws.proofs.PackedShapes.{each_name, fills_so}

-- ---- widths of calls

-- one after the other
mapped : {A B C : Type 0} (f : B → C) (g : A → B) (h : A → C) (xs : List A) → ((a : A) → f (g a) ≡ h a)
    → map f (map g xs) ≡ map h xs
mapped f g h [] same = refl
mapped {C = C} f g h (x ∷ xs) same = ap₂ (λ (y : C) (ys : List C). y ∷ ys) (same x) (mapped f g h xs same)

-- the same widths, in a reader's record
abbrev widths : CallWidths → Widths
widths w = record { arguments = w.arguments; answer = w.answer }

argument_widths : (xs : List Argument)
    → map (λ (t : ValueType). t.width) (map (λ (a : Argument). a.ty) xs) ≡ map (λ (a : Argument). a.ty.width) xs
argument_widths [] = refl
argument_widths (x ∷ xs) = ap (λ (ws : List ℕ). x.ty.width ∷ ws) (argument_widths xs)

method_noted : (t : MethodTypes) → widths (call_widths (types_of_method t)) ≡ noted_method t
method_noted t =
    ap (λ (ws : List ℕ). record { arguments = ws; answer = width_if t.result }) (argument_widths t.arguments)

argument_listed : (t : Option ValueType) → map (λ (t : ValueType). t.width) (type_list t) ≡ listed (width_if t)
argument_listed None = refl
argument_listed (Some t) = refl

caller_noted : (t : CallerTypes) → widths (call_widths (types_of_caller t)) ≡ noted_caller t
caller_noted t =
    ap (λ (ws : List ℕ). record { arguments = ws; answer = width_if t.result }) (argument_listed t.argument)

-- ---- attributes

module _ (d : Design) (kind : Kind) (signals : list_all (signal_fits d) kind.signals ≡ true)
    (kinds : (i : ℕ) (k : Kind) → slice_get d.kinds i ≡ Some k → list_all (signal_fits d) k.signals ≡ true) where
  -- one of some signals that fit
  got_signal : (ss : List Signal) (i : ℕ) (s : Signal) → list_all (signal_fits d) ss ≡ true → slice_get ss i ≡ Some s
      → is_width s.width ≡ true
  got_signal [] i s all at = never (ap is_some at)
  got_signal (x ∷ ss) zero s all at =
      let here = and_parts (signal_fits d x) (list_all (signal_fits d) ss) all in
      let width = and_parts (is_width x.width) (shape_fits d x.width x.shape) here.0 in
      subst (λ (s : Signal). is_width s.width ≡ true) (same_Some x s at) width.0
  got_signal (x ∷ ss) (suc i) s all at =
      got_signal ss i s (and_parts (signal_fits d x) (list_all (signal_fits d) ss) all).1 at

  -- the kind whose signal it is
  owner_signals : (o : ℕ) (k : Kind) → owner_of d kind o ≡ Some k → list_all (signal_fits d) k.signals ≡ true
  owner_signals zero k at =
      subst (λ (k : Kind). list_all (signal_fits d) k.signals ≡ true) (same_Some kind k at) signals
  owner_signals (suc c) k at = by (slice_get kind.children c) at
    where
      by : (x : Option Child) → fits.child_kind d x ≡ Some k → list_all (signal_fits d) k.signals ≡ true
      by None at = never (ap is_some at)
      by (Some x) at = kinds x.kind k at

  -- some bits of a signal of 1 to 128
  bits_width : (part : Part) (w : ℕ) → (nat_lt 0 part.width && nat_le (part.lo + part.width) w) ≡ true
      → is_width w ≡ true → is_width part.width ≡ true
  bits_width part w bits width =
      let parts = and_parts (nat_lt 0 part.width) (nat_le (part.lo + part.width) w) bits in
      let ends = and_parts (nat_le 1 w) (nat_le w 128) width in
      let some : 0 < part.width = ltb-true _ _ parts.0 in
      let within : part.lo + part.width ≤ w = leb-true _ _ parts.1 in
      let few : w ≤ 128 = leb-true _ _ ends.1 in
      let low : nat_le 1 part.width ≡ true = grind (arith, some) in
      let high : nat_le part.width 128 ≡ true = grind (arith, within, few) in
      both (nat_le 1 part.width) (nat_le part.width 128) low high

  -- the width of a part that fits
  part_width : (part : Part) → part_fits d kind part ≡ true → is_width part.width ≡ true
  part_width part is = by (owner_of d kind part.owner) refl is
    where
      next : (k : Kind) (s : Option Signal) → list_all (signal_fits d) k.signals ≡ true
          → slice_get k.signals part.signal ≡ s → bits_in part s ≡ true → is_width part.width ≡ true
      next k None all at is = never is
      next k (Some s) all at is = bits_width part s.width is (got_signal k.signals part.signal s all at)

      by : (k : Option Kind) → owner_of d kind part.owner ≡ k → signal_in part k ≡ true → is_width part.width ≡ true
      by None at is = never is
      by (Some k) at is = next k (slice_get k.signals part.signal) (owner_signals part.owner k at) refl is

  -- the type that a value is
  pub type_so : (t : ValueType) → type_fits d t ≡ true → is_type d.shapes t ≡ true
  type_so t is =
      let parts = and_parts (is_width t.width) (shape_fits d t.width t.shape) is in
      both (is_width t.width) _ parts.0 (fills_so d t.width t.shape parts.1)

  pub reference_so : (r : Reference) → taken_fits d kind (taken.Signal r) ≡ true → is_reference d kind r ≡ true
  reference_so r is =
      let parts = signal_parts d kind r is in
      both _ _ (part_good d kind r.part parts.0)
      (both (is_width r.part.width) _ (part_width r.part parts.0) (fills_so d r.part.width r.shape parts.1))

  pub child_so : (cs : List Child) (c : ℕ) → is_some (slice_get cs c) ≡ true → nat_lt c (length cs) ≡ true
  child_so cs c is = by (slice_get cs c) refl is
    where
      by : (x : Option Child) → slice_get cs c ≡ x → is_some x ≡ true → nat_lt c (length cs) ≡ true
      by None at is = never is
      by (Some x) at is = let less : c < length cs = slice_get_within cs c x at in grind (arith, less)

  -- what has been taken
  taken_so : (t : Taken) → taken_fits d kind t ≡ true → is_taken d kind t ≡ true
  taken_so (taken.Signal r) is = reference_so r is
  taken_so (taken.Child c) is = child_so kind.children c is
  taken_so (taken.Method c) is = callee_good d kind c is
  taken_so (taken.State s) is = refl
  taken_so (taken.Descendant c) is = refl
  taken_so (taken.FarSignal r) is = refl
  taken_so taken.FarState is = refl
  taken_so taken.FarMethod is = refl

  -- what fits is there
  abbrev Fine : Value → Type 0
  Fine v = Good (tests d kind) held v → is_value d kind v ≡ true

  items_so : (vs : List Value) → Each Fine vs → Each (Good (tests d kind) held) vs
      → list_all (λ b. b) (map (is_value d kind) vs) ≡ true
  items_so [] fine good = refl
  items_so (v ∷ vs) fine good = both (is_value d kind v) _ (fine.0 good.0) (items_so vs fine.1 good.1)

  -- the sort of a member
  abbrev member_is : Member → Bool
  member_is = fold-Member Bool Bool (is_value_of d kind) member_sort

  member_same : (m : Member) → member_is m ≡ is_value d kind m.value
  unfolding is_value
  member_same m = fold_out-Member Bool Bool (is_value_of d kind) member_sort m

  members_so : (ms : List Member) → Each (λ (m : Member). Fine m.value) ms
      → Each (λ (m : Member). Good (tests d kind) held m.value) ms → list_all (λ b. b) (map member_is ms) ≡ true
  members_so [] fine good = refl
  members_so (m ∷ ms) fine good =
      both (member_is m) _ (member_same m ∙ fine.0 good.0) (members_so ms fine.1 good.1)

  layer_so : (x : Value-F Value Member) → Parts Fine x → GoodLayer (tests d kind) held x
      → is_value_of d kind (map-Value Value Member Bool Bool (is_value d kind) member_is x) ≡ true
  layer_so (Value-F.Int n) parts is = refl
  layer_so (Value-F.Type t) parts is = type_so t is
  layer_so (Value-F.Const w) parts is = refl
  layer_so (Value-F.Class n) parts is = refl
  layer_so Value-F.Own parts is = refl
  layer_so (Value-F.New n) parts is = never is
  layer_so (Value-F.NewInterface ms) parts is = absurd is
  layer_so (Value-F.Taken t) parts is = taken_so t is
  layer_so (Value-F.Interface ms) parts is = members_so ms parts is.1
  layer_so (Value-F.Items vs) parts is = items_so vs parts is.1
  layer_so (Value-F.Term t) parts is = never is
  layer_so (Value-F.Rule t u) parts is = never is

  step_so : (x : Value-F Value Member) → Parts Fine x → Fine (roll-Value x)
  unfolding is_value
  step_so x parts good =
      fold-roll-Value Bool Bool (is_value_of d kind) member_sort x
      ∙ layer_so x parts (opened_layer (tests d kind) x held good)

  value_so : (v : Value) → Fine v
  value_so v = each_value Fine step_so v

  attributes_so : (names : List (List ℕ × Value)) → Each (λ (p : List ℕ × Value). Good (tests d kind) held p.1) names
      → list_all (λ (p : List ℕ × Value). is_value d kind p.1) names ≡ true
  attributes_so [] each = refl
  attributes_so (p ∷ ps) each = both (is_value d kind p.1) _ (value_so p.1 each.0) (attributes_so ps each.1)

-- ---- kinds

-- the signals of a kind that was made
pub kinds_signals : (d : Design) (ks : List MadeKind) → Each (IsKindSound d) ks → (i : ℕ) (k : Kind)
    → slice_get (map (λ (made : MadeKind). made.kind) ks) i ≡ Some k → list_all (signal_fits d) k.signals ≡ true
kinds_signals d [] each i k at = never (ap is_some at)
kinds_signals d (x ∷ ks) each zero k at =
    subst (λ (k : Kind). list_all (signal_fits d) k.signals ≡ true) (same_Some x.kind k at) each.0.0.signals
kinds_signals d (x ∷ ks) each (suc i) k at = kinds_signals d ks each.1 i k at

-- a kind that was made, in a design that has as much
one_noted : (d : Design) (k : MadeKind)
    → ((i : ℕ) (k : Kind) → slice_get d.kinds i ≡ Some k → list_all (signal_fits d) k.signals ≡ true)
    → IsKindSound d k → IsNoted d k.kind k.raw
one_noted d k kinds is = record {
  attributes = attributes_so d k.kind is.0.signals kinds k.raw.attributes is.1;
  methods = sym (mapped widths fits.method_widths method_widths k.kind.methods (λ m. refl))
      ∙ (ap (map widths) is.0.method_types ∙ mapped widths _ noted_method k.raw.methods method_noted);
  callers = sym (mapped widths fits.caller_widths caller_widths k.kind.callers (λ c. refl))
      ∙ (ap (map widths) is.0.caller_types ∙ mapped widths _ noted_caller k.raw.callers caller_noted);
}

-- one of them
kind_noted : (d : Design) (ks : List MadeKind) → Each (λ (k : MadeKind). IsNoted d k.kind k.raw) ks
    → (i : ℕ) (kind : Kind) (raw : RawKind) → slice_get (map (λ (made : MadeKind). made.kind) ks) i ≡ Some kind
    → slice_get (map (λ (made : MadeKind). made.raw) ks) i ≡ Some raw → IsNoted d kind raw
kind_noted d [] each i kind raw first second = never (ap is_some first)
kind_noted d (k ∷ ks) each zero kind raw first second =
    subst (λ (kind : Kind). IsNoted d kind raw) (same_Some k.kind kind first)
    (subst (λ (raw : RawKind). IsNoted d k.kind raw) (same_Some k.raw raw second) each.0)
kind_noted d (k ∷ ks) each (suc i) kind raw first second = kind_noted d ks each.1 i kind raw first second

abbrev AreNoted : RawDesign → Type 0
AreNoted r = (k : ℕ) (kind : Kind) (raw : RawKind) → slice_get r.design.kinds k ≡ Some kind
    → slice_get r.kinds k ≡ Some raw → IsNoted r.design kind raw

-- the design of what was made
design_noted : (r : Checked ((Globals × ℕ) × Elaboration)) → On r (λ x. IsMade x.1)
    → On (and_then r (λ x. Ok (design_of x.1 x.0.0 x.0.1))) AreNoted
design_noted (Err e) made = tt
design_noted (Ok x) made = kind_noted e x.1.kinds (each_noted x.1.kinds (each_there x.1.kinds made.kinds))
  where
    d : Design
    d = design_made x.1

    e : Design
    e = record { kinds = map (λ (made : MadeKind). made.kind) x.1.kinds; shapes = x.1.shapes; top = x.0.1 }

    each_there : (ks : List MadeKind) → Each (IsKindSound d) ks → Each (IsKindSound e) ks
    each_there [] each = tt
    each_there (k ∷ ks) each = (kind_more d e k (keeps_same d.kinds) (keeps_same d.shapes) each.0, each_there ks each.1)

    each_noted : (ks : List MadeKind) → Each (IsKindSound e) ks → Each (λ (k : MadeKind). IsNoted e k.kind k.raw) ks
    each_noted [] each = tt
    each_noted (k ∷ ks) each =
        (one_noted e k (kinds_signals e x.1.kinds (each_there x.1.kinds made.kinds)) each.0, each_noted ks each.1)

pub kinds_noted : KindsAreNoted
unfolding build
kinds_noted nodes name params given names good is =
    subst (λ (r : Checked RawDesign). On r AreNoted) is
    (design_noted _ (file_sound nodes name params (each_name (names_of nodes) names) (params_good params good)))
