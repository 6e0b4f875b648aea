-- Attributes, elements and what functions give fit where they are computed.
use Rattle.std.proofs.Common.{◌≡◌, ◌∙◌, ◌+◌, ◌-◌, ◌<◌, ◌≤◌, ◌==◌, ◌&&◌, ℕ, zero, suc, ℤ, Bool, true, false, List, []}
use Rattle.std.proofs.Common.{◌∷◌, refl, sym, subst, map, ap, length, arith, leb-true, ltb-true, eqb-true}
use Rattle.std.specs.Prelude.{Option, Some, None, Ok, Err, nat_lt, nat_le, is_some, slice_get, codes, pos, negsuc, find}
use Rattle.std.specs.Prelude.{if◌then◌else◌, ◌||◌}
use Rattle.std.specs.List.{list_all, range_with_len}
use Rattle.std.specs.Option.{option_map}
use Rattle.std.specs.Str.{bytes_eq}
use Rattle.std.proofs.lemmas.Bool.{and_parts}
use Rattle.std.proofs.lemmas.Option.{slice_get-map, same_Some}
use Rattle.pm_design.specs.declared.body.Block.{Block}
use Rattle.pm_design.specs.declared.body.BlockSort.{BlockSort}
use Rattle.pm_design.specs.declared.body.BlockSort.TheVariants as sort
use Rattle.pm_design.specs.declared.connection.Callee.{Callee}
use Rattle.pm_design.specs.declared.connection.Callee.TheVariants as callee
use Rattle.pm_design.specs.declared.connection.Part.{Part}
use Rattle.pm_design.specs.declared.connection.Term.{Term}
use Rattle.pm_design.specs.declared.connection.Term.TheVariants as term
use Rattle.pm_design.specs.declared.design.Child.{Child}
use Rattle.pm_design.specs.declared.design.Design.{Design}
use Rattle.pm_design.specs.declared.design.Kind.{Kind}
use Rattle.pm_design.specs.declared.signal.Field.{Field}
use Rattle.pm_design.specs.declared.signal.Role.{Role}
use Rattle.pm_design.specs.declared.signal.Role.TheVariants.{Input, Output, Inner}
use Rattle.pm_design.specs.declared.signal.Shape.{Shape}
use Rattle.pm_design.specs.declared.signal.Signal.{Signal}
use Rattle.pm_design.specs.Lookups.{no_kind}
use Rattle.pm_design.specs.Widths.{is_width}
use Rattle.pm_values.specs.declared.fault.BuildFault.TheVariants.{IntRange, WrongKind, Unbound, WidthRange}
use Rattle.pm_values.specs.declared.fault.BuildFault.TheVariants.{BadArguments}
use Rattle.pm_values.specs.declared.reference.Form.{Form}
use Rattle.pm_values.specs.declared.reference.Form.TheVariants as form
use Rattle.pm_values.specs.declared.reference.Reference.{Reference}
use Rattle.pm_values.specs.declared.reference.ValueType.{ValueType}
use Rattle.pm_values.specs.declared.value.Member.{Member}
use Rattle.pm_values.specs.declared.value.New.TheVariants as new
use Rattle.pm_values.specs.declared.value.Taken.{Taken}
use Rattle.pm_values.specs.declared.value.Taken.TheVariants as taken
use Rattle.pm_values.specs.declared.value.Value.{Value, Value-F, out-Value}
use Rattle.pm_values.specs.declared.value.Value.TheVariants as value
use Rattle.pm_values.specs.Integers.{ceiling_log}
use Rattle.pm_values.specs.Tables.{get}
use Rattle.pm_elab.specs.declared.call.Given.{Given}
use Rattle.pm_elab.specs.declared.class.ConstructedClass.{ConstructedClass}
use Rattle.pm_elab.specs.declared.class.ConstructedClass.TheVariants as class
use Rattle.pm_elab.specs.declared.elaboration.Elaboration.{Elaboration}
use Rattle.pm_elab.specs.declared.elaboration.MadeKind.{MadeKind}
use Rattle.pm_elab.specs.declared.frame.Frame.{Frame}
use Rattle.pm_elab.specs.declared.function.Function.{Function}
use Rattle.pm_elab.specs.declared.function.Function.TheVariants as function
use Rattle.pm_elab.specs.Attributes.{field_in, field_of_shape, shape_at, field_part, field_named, member_named}
use Rattle.pm_elab.specs.Attributes.{kind_attribute, child_attribute, taken_attribute, component_attribute}
use Rattle.pm_elab.specs.Attributes.{interface_attribute, attribute_of_own, own_attribute_in, own_attribute}
use Rattle.pm_elab.specs.Attributes.{attribute_at, attribute, bit_at, bit, bits_from, bits_between, element_at, element}
use Rattle.pm_elab.specs.Attributes.{slice_at, slice, signal_value, far_value}
use Rattle.pm_elab.specs.Elab.{Checked, and_then, or_else}
use Rattle.pm_elab.specs.Expressions.{block_from, block_term}
use Rattle.pm_elab.specs.Functions.{called, only, both, signal_of, new_signal, make_bits, number, ceiling_log_of}
use Rattle.pm_elab.specs.Functions.{length_in, length_of, only_named, maxlen_in, deque_of, new_deque, name_either}
use Rattle.pm_elab.specs.Functions.{is_named, value_named, type_if, type_given, new_caller, method_of, callee_at}
use Rattle.pm_elab.specs.Functions.{callee_of, new_callee, bits_term_at, readers_of, readers_term, writers_of}
use Rattle.pm_elab.specs.Functions.{writers_term, callers_at, callers_of, callers_term, no_block, no_value}
use Rattle.pm_elab.specs.Sites.{Site, is_type_name, named_width, type_named}
use Rattle.pm_elab.specs.Values.{int, list, item, type_at, type_in, bits_of, bits_of_width, signal_type_at, signal_type}
use Rattle.pm_elab.specs.Views.{View, is_port, viewed, taken_viewed, member_seen, kind_of_child}
use Rattle.pm_elab_laws.specs.Told.{is_told_of, is_whole_form, same_role}
use Rattle.pm_elab_laws.proofs.Changes.{if_so, unless_so}
use Rattle.pm_elab_laws.proofs.EqualValues.{both as both_so}
use Rattle.pm_elab_laws.proofs.Fits.{role_fits, sees, sees_in}
use Rattle.pm_elab_laws.proofs.Fits.{shape_fits, has_width, type_fits, type_fits_if, child_kind, owner_of, part_fits}
use Rattle.pm_elab_laws.proofs.Fits.{signal_in, bits_in as within, callee_fits, of_methods, of_callers, taken_fits}
use Rattle.pm_elab_laws.proofs.Fits.{term_fits, tests, type_tests}
use Rattle.pm_elab_laws.proofs.Framing.{chain}
use Rattle.pm_elab_laws.proofs.Keeping.{On, Each, Where}
use Rattle.pm_elab_laws.proofs.MadeAttributes.{get_each}
use Rattle.pm_elab_laws.proofs.Moves.{lower, held_free, viewed_good, seen_good}
use Rattle.pm_elab_laws.proofs.Places.{any, chosen, found, where_so}
use Rattle.pm_elab_laws.proofs.Tests.{Good, GoodLayer, GoodMember, free, fresh, held, plain, never, opened_value}
use Rattle.pm_elab_laws.proofs.Tests.{closed}

-- the design of what was made
abbrev pub design_made : Elaboration → Design
design_made m = record { kinds = map (λ (made : MadeKind). made.kind) m.kinds; shapes = m.shapes; top = 0 }

-- the kind of the component that is being made
abbrev pub kind_in : Option Frame → Kind
kind_in None = no_kind
kind_in (Some f) = f.kind

-- a field of good width within the bitstruct
abbrev pub field_fits : Design → ℕ → Field → Bool
field_fits d w f = is_width f.width && (shape_fits d f.width f.shape && nat_le (f.lo + f.width) w)

abbrev pub shape_is_good : Design → Shape → Bool
shape_is_good d s = is_width s.width && list_all (field_fits d s.width) s.fields

-- an attribute of a component or of an interface
abbrev pub FitsClass : ConstructedClass → Design → Kind → Value → Type 0
FitsClass class.Component d kind v = Good (tests d kind) held v
FitsClass class.Interface d kind v = Good (type_tests d) fresh v

pub all_got : {A : Type 0} (p : A → Bool) (xs : List A) (i : ℕ) (a : A) → list_all p xs ≡ true
    → slice_get xs i ≡ Some a → p a ≡ true
all_got p [] i a all at = absurd (subst (λ o. elim o as (λ _. Type 0) [ Some a ↦ ⊥ | None ↦ Unit {0} ]) at tt)
all_got p (x ∷ xs) zero a all at = let parts = and_parts (p x) (list_all p xs) all in ap p (sym (same_Some x a at))
    ∙ parts.0
all_got p (x ∷ xs) (suc i) a all at = let parts = and_parts (p x) (list_all p xs) all in all_got p xs i a parts.1 at

pub found_got : {A : Type 0} (P : A → Type 0) (xs : List A) (i : ℕ) → Each P xs → Where P (slice_get xs i)
found_got P [] zero each = tt
found_got P [] (suc i) each = tt
found_got P (x ∷ xs) zero each = each.0
found_got P (x ∷ xs) (suc i) each = found_got P xs i each.1

pub signals_new : (d : Design) (kind : Kind) (role : Role) (t : ValueType) → type_fits d t ≡ true
    → (tests d kind).new (new.Signal role t) ≡ true
signals_new d kind role t is = is

pub held_to_free : (d : Design) (kind : Kind) (v : Value) → Good (tests d kind) held v → Good (tests d kind) free v
held_to_free d kind v is = lower (tests d kind) (signals_new d kind) v held free held_free is

-- a reference to some bits is as it tells where one to more bits is
less_told : (r : Reference) (part : Part) (shape : Option ℕ) (f : Form) → is_whole_form f ≡ false → (own : Bool) (i : ℕ)
    (k : Option Kind) → sees_in (is_told_of r) own i k ≡ true
    → sees_in (is_told_of (record r { part = part; shape = shape; form = f })) own i k ≡ true
less_told r part shape f less own i None is = never is
less_told r part shape f less own i (Some k) is = by (slice_get k.signals i) is
  where
    by : (s : Option Signal) → sees (is_told_of r) own s ≡ true
        → sees (is_told_of (record r { part = part; shape = shape; form = f })) own s ≡ true
    by None is = never is
    by (Some s) is =
        let parts = and_parts (is_told_of r s) (own || is_port s.role) is in
        let role = and_parts (same_role r.role s.role) _ parts.0 in
        both_so _ (own || is_port s.role) (both_so (same_role r.role s.role) _ role.0
        (subst (λ (b : Bool). (if b then part.lo == 0 && part.width == s.width else true) ≡ true) (sym less) refl))
        parts.1

same_port : (a b : Role) → same_role a b ≡ true → is_port a ≡ true → is_port b ≡ true
same_port Input Input same port = refl
same_port Input Output same port = refl
same_port Input Inner same port = never same
same_port Output Input same port = refl
same_port Output Output same port = refl
same_port Output Inner same port = never same
same_port Inner Input same port = refl
same_port Inner Output same port = refl
same_port Inner Inner same port = port

-- ---- parts

-- some of the bits of a part
pub some_bits : (part : Part) (lo n : ℕ) (k : Option Kind) → 0 < n → lo + n ≤ part.width → signal_in part k ≡ true
    → signal_in (record { owner = part.owner; signal = part.signal; lo = part.lo + lo; width = n }) k ≡ true
some_bits part lo n None some le is = never is
some_bits part lo n (Some k) some le is = by (slice_get k.signals part.signal) is
  where
    by : (s : Option Signal) → within part s ≡ true
        → within (record { owner = part.owner; signal = part.signal; lo = part.lo + lo; width = n }) s ≡ true
    by None is = never is
    by (Some s) is =
        let parts = and_parts (nat_lt 0 part.width) (nat_le (part.lo + part.width) s.width) is in
        let whole : part.lo + part.width ≤ s.width = leb-true _ _ parts.1 in
        let first : nat_lt 0 n ≡ true = grind (arith, some) in
        let last : nat_le (part.lo + lo + n) s.width ≡ true = grind (arith, whole, le) in
        both_so (nat_lt 0 n) (nat_le (part.lo + lo + n) s.width) first last

module _ (d : Design) (kind : Kind) where
  abbrev Fits : Value → Type 0
  Fits v = Good (tests d kind) free v

  pub fits_int : (i : ℤ) → Fits (value.Int i)
  fits_int i = closed (tests d kind) (Value-F.Int i) _ free (value.rolls-Int i) tt

  pub fits_taken : (t : Taken) → taken_fits d kind t ≡ true → Fits (value.Taken t)
  fits_taken t is = closed (tests d kind) (Value-F.Taken t) _ free (value.rolls-Taken t) is

  held_taken : (t : Taken) → taken_fits d kind t ≡ true → Good (tests d kind) held (value.Taken t)
  held_taken t is = closed (tests d kind) (Value-F.Taken t) _ held (value.rolls-Taken t) is

  held_int : (i : ℤ) → Good (tests d kind) held (value.Int i)
  held_int i = closed (tests d kind) (Value-F.Int i) _ held (value.rolls-Int i) tt

  pub signal_parts : (r : Reference) → taken_fits d kind (taken.Signal r) ≡ true
      → (part_fits d kind r.part ≡ true) × (shape_fits d r.part.width r.shape ≡ true) × (role_fits d kind r ≡ true)
  signal_parts r is =
      let first = and_parts (part_fits d kind r.part) (shape_fits d r.part.width r.shape && role_fits d kind r) is in
      let second = and_parts (shape_fits d r.part.width r.shape) (role_fits d kind r) first.1 in
      (first.0, second.0, second.1)

  bit_fits : (line : ℕ) (r : Reference) (i : ℤ) → taken_fits d kind (taken.Signal r) ≡ true
      → On (and_then (bit_at line r i) signal_value) Fits
  bit_fits line r (negsuc i) is = tt
  bit_fits line r (pos i) is = by (nat_lt i r.part.width) refl
    where
      by : (b : Bool) → nat_lt i r.part.width ≡ b
          → On (and_then (if b then Ok (record r {
            part = record r.part { lo = r.part.lo + i; width = 1 };
            shape =
                None;
            form = form.Bit;
          }) else Err (IntRange line)) signal_value) Fits
      by false less = tt
      by true less =
          let lt : i < r.part.width = ltb-true _ _ less in
          fits_taken _ (both_so _ _ (some_bits r.part i 1 (owner_of d kind r.part.owner) (omega arith)
          (omega (arith, lt)) (signal_parts r is).0)
          (less_told r (record r.part { lo = r.part.lo + i; width = 1 }) None form.Bit refl (r.part.owner == 0)
          r.part.signal (owner_of d kind r.part.owner) (signal_parts r is).2))

  slice_fits : (line : ℕ) (r : Reference) (lo hi : ℤ) → taken_fits d kind (taken.Signal r) ≡ true
      → On (and_then (bits_from line r lo hi) signal_value) Fits
  slice_fits line r (negsuc lo) (negsuc hi) is = tt
  slice_fits line r (negsuc lo) (pos hi) is = tt
  slice_fits line r (pos lo) (negsuc hi) is = tt
  slice_fits line r (pos lo) (pos hi) is = by (nat_lt lo hi && nat_le hi r.part.width) refl
    where
      by : (b : Bool) → (nat_lt lo hi && nat_le hi r.part.width) ≡ b
          → On (and_then (if b then Ok (record r {
            part = record r.part { lo = r.part.lo + lo; width = hi - lo };
            shape = None;
            form = form.Slice;
          }) else Err (IntRange line)) signal_value) Fits
      by false less = tt
      by true less =
          let parts = and_parts (nat_lt lo hi) (nat_le hi r.part.width) less in
          let lt : lo < hi = ltb-true _ _ parts.0 in
          let le : hi ≤ r.part.width = leb-true _ _ parts.1 in
          fits_taken _ (both_so _ _ (some_bits r.part lo (hi - lo) (owner_of d kind r.part.owner)
          (omega (arith, lt)) (omega (arith, lt, le)) (signal_parts r is).0)
          (less_told r (record r.part { lo = r.part.lo + lo; width = hi - lo }) None form.Slice refl
          (r.part.owner == 0) r.part.signal (owner_of d kind r.part.owner) (signal_parts r is).2))

  far_fits : (r : Checked Reference) → On (and_then r far_value) Fits
  far_fits (Ok r) = fits_taken (taken.FarSignal r) refl
  far_fits (Err e) = tt

  item_fits : (line : ℕ) (vs : List Value) (i : ℤ) → Each Fits vs → On (item line vs i) Fits
  unfolding item
  item_fits line vs (pos i) each = found Fits (slice_get vs i) (IntRange line) (found_got Fits vs i each)
  item_fits line vs (negsuc i) each = tt

  element_by : (line : ℕ) (i : ℤ) (w : Value-F Value Member) → GoodLayer (tests d kind) free w
      → On (element_at line i w) Fits
  unfolding bit
  element_by line i (Value-F.Items vs) is = item_fits line vs i is.1
  element_by line i (Value-F.Taken (taken.Signal r)) is = bit_fits line r i is
  element_by line i (Value-F.Taken (taken.FarSignal r)) is = far_fits (bit_at line r i)
  element_by line i _ is = tt

  -- an element
  pub element_fits : (line : ℕ) (v : Value) (i : ℤ) → Fits v → On (element line v i) Fits
  unfolding element
  element_fits line v i is = element_by line i (out-Value v) (opened_value (tests d kind) v free is)

  slice_by : (line : ℕ) (lo hi : ℤ) (w : Value-F Value Member) → GoodLayer (tests d kind) free w
      → On (slice_at line lo hi w) Fits
  unfolding bits_between
  slice_by line lo hi (Value-F.Taken (taken.Signal r)) is = slice_fits line r lo hi is
  slice_by line lo hi (Value-F.Taken (taken.FarSignal r)) is = far_fits (bits_from line r lo hi)
  slice_by line lo hi _ is = tt

  -- a slice
  pub part_of_fits : (line : ℕ) (v : Value) (lo hi : ℤ) → Fits v → On (slice line v lo hi) Fits
  unfolding slice
  part_of_fits line v lo hi is = slice_by line lo hi (out-Value v) (opened_value (tests d kind) v free is)

  -- ---- functions

  only_fits : (line : ℕ) (gs : List Given) → Each (λ (g : Given). Fits g.value) gs → On (only line gs) Fits
  unfolding only
  only_fits line [] each = tt
  only_fits line (g ∷ []) each = unless_so Fits (is_some g.name) (BadArguments line) (Ok g.value) each.0
  only_fits line (g ∷ h ∷ gs) each = tt

  only_named_fits : (line : ℕ) (name : List ℕ) (gs : List Given) → Each (λ (g : Given). Fits g.value) gs
      → On (only_named line name gs) Fits
  unfolding only_named
  only_named_fits line name [] each = tt
  only_named_fits line name (g ∷ []) each = if_so Fits (is_named name g) (BadArguments line) (Ok g.value) each.0
  only_named_fits line name (g ∷ h ∷ gs) each = tt

  named_fits : (gs : List Given) (name : List ℕ) → Each (λ (g : Given). Fits g.value) gs
      → Where Fits (value_named gs name)
  unfolding value_named
  named_fits [] name each = tt
  named_fits (g ∷ gs) name each = chosen (Where Fits) (is_named name g) (Some g.value) (value_named gs name) each.0
      (named_fits gs name each.1)

  abbrev FitsType : ValueType → Type 0
  FitsType t = type_fits d t ≡ true

  width_fits : (line : ℕ) (i : ℤ) → On (bits_of_width line i) FitsType
  unfolding bits_of_width
  width_fits line (negsuc n) = tt
  width_fits line (pos n) = by (is_width n) refl
    where
      by : (b : Bool) → is_width n ≡ b → On (if b then Ok (bits_of n) else Err (WidthRange line)) FitsType
      by true is = both_so (is_width n) true is refl
      by false is = tt

  signal_type_by : (line : ℕ) (w : Value-F Value Member) → GoodLayer (tests d kind) free w
      → On (signal_type_at line w) FitsType
  signal_type_by line (Value-F.Int i) is = width_fits line i
  signal_type_by line (Value-F.Type t) is = is
  signal_type_by line _ is = tt

  signal_type_fits : (line : ℕ) (v : Value) → Fits v → On (signal_type line v) FitsType
  unfolding signal_type
  signal_type_fits line v is = signal_type_by line (out-Value v) (opened_value (tests d kind) v free is)

  type_by : (line : ℕ) (w : Value-F Value Member) → GoodLayer (tests d kind) free w → On (type_at line w) FitsType
  type_by line (Value-F.Type t) is = is
  type_by line _ is = tt

  pub type_in_fits : (line : ℕ) (v : Value) → Fits v → On (type_in line v) FitsType
  unfolding type_in
  type_in_fits line v is = type_by line (out-Value v) (opened_value (tests d kind) v free is)

  pub fits_type : (t : ValueType) → type_fits d t ≡ true → Fits (value.Type t)
  fits_type t is = closed (tests d kind) (Value-F.Type t) _ free (value.rolls-Type t) is

  pub fits_term : (t : Term) → term_fits d kind t ≡ true → Fits (value.Term t)
  fits_term t is = closed (tests d kind) (Value-F.Term t) _ free (value.rolls-Term t) is

  new_signal_fits : (role : Role) (t : ValueType) → type_fits d t ≡ true → On (signal_of role t) Fits
  new_signal_fits role t is = closed (tests d kind) (Value-F.New (new.Signal role t)) _ free (value.rolls-New _) is

  signals : (role : Role) (line : ℕ) (gs : List Given) → Each (λ (g : Given). Fits g.value) gs
      → On (new_signal role line gs) Fits
  unfolding new_signal
  signals role line [] each = new_signal_fits role (bits_of 1) refl
  signals role line (g ∷ gs) each =
      chain Fits Fits (only line (g ∷ gs)) _ (only_fits line (g ∷ gs) each) (λ v is. chain FitsType Fits
      (signal_type line v) (signal_of role) (signal_type_fits line v is) (new_signal_fits role))

  deques : (line : ℕ) (i : ℤ) → On (maxlen_in line i) Fits
  deques line (negsuc n) = tt
  deques line (pos n) = by (nat_le 1 n) (nat_le n 64) refl
    where
      by : (a b : Bool) → nat_le n 64 ≡ b
          → On (if a && b then Ok (value.New (new.Deque n)) else Err (IntRange line)) Fits
      by true true few = closed (tests d kind) (Value-F.New (new.Deque n)) _ free (value.rolls-New _) few
      by true false few = tt
      by false b few = tt

  types_if : (line : ℕ) (v : Option Value) → Where Fits v → On (type_if line v) (λ t. type_fits_if d t ≡ true)
  types_if line None is = refl
  types_if line (Some v) is = chain FitsType (λ t. type_fits_if d t ≡ true) (type_in line v) _ (type_in_fits line v
      is) (λ t is. is)

  types_given : (line : ℕ) (name : List ℕ) (gs : List Given) → Each (λ (g : Given). Fits g.value) gs
      → On (type_given line name gs) (λ t. type_fits_if d t ≡ true)
  unfolding type_given
  types_given line name gs each = types_if line (value_named gs name) (named_fits gs name each)

  methods : (line : ℕ) (c : Callee) → callee_fits d kind c ≡ true → On (method_of line c) Fits
  methods line (callee.Own m) is = closed (tests d kind) (Value-F.New (new.Callee (callee.Own m))) _ free
      (value.rolls-New _) is
  methods line (callee.Child k m) is = closed (tests d kind) (Value-F.New (new.Callee (callee.Child k m))) _ free
      (value.rolls-New _) is
  methods line (callee.Port p) is = tt
  methods line (callee.ChildPort k p) is = tt

  callees : (line : ℕ) (v : Value-F Value Member) → GoodLayer (tests d kind) free v → On (callee_at line v) Fits
  callees line (Value-F.Taken (taken.Method c)) is = methods line c is
  callees line _ is = tt

  bits : (blocks : Part → Term) → ((part : Part) → part_fits d kind part ≡ true
      → term_fits d kind (blocks part) ≡ true) → (line : ℕ) (v : Value-F Value Member)
      → GoodLayer (tests d kind) free v → On (bits_term_at blocks line v) Fits
  bits blocks same line (Value-F.Taken (taken.Signal r)) is = fits_term (blocks r.part) (same r.part (signal_parts r
      is).0)
  bits blocks same line (Value-F.Taken (taken.State s)) is = fits_term term.Wrong refl
  bits blocks same line (Value-F.Taken taken.FarState) is = fits_term term.Wrong refl
  bits blocks same line _ is = tt

  calls : (line : ℕ) (v : Value-F Value Member) → GoodLayer (tests d kind) free v → On (callers_at line v) Fits
  calls line (Value-F.Taken (taken.Method c)) is = fits_term (term.Calls c) is
  calls line _ is = tt

  -- what a function gives
  pub called_fits : (f : Function) (line : ℕ) (gs : List Given) → Each (λ (g : Given). Fits g.value) gs
      → On (called f line gs) Fits
  unfolding called make_bits ceiling_log_of length_of length_in new_deque deque_of new_caller new_callee callee_of
      readers_term readers_of writers_term writers_of callers_term callers_of no_block no_value
  called_fits function.InPort line gs each = signals Input line gs each
  called_fits function.OutPort line gs each = signals Output line gs each
  called_fits function.Wire line gs each = signals Inner line gs each
  called_fits function.MakeBits line gs each = chain Fits Fits (only line gs) _ (only_fits line gs each) (λ v is.
      chain (λ _. Unit {0}) Fits (int line v) _ (any (int line v)) (λ i _. chain FitsType Fits (bits_of_width line
      i) _ (width_fits line i) fits_type))
  called_fits function.CeilingLog line gs each = chain Fits Fits (only line gs) _ (only_fits line gs each) (λ v is.
      chain (λ _. Unit {0}) Fits (int line v) _ (any (int line v)) (λ i _. chain (λ _. Unit {0}) Fits
      (or_else (ceiling_log i) (IntRange line)) number (any _) (λ l _. fits_int (pos l))))
  called_fits function.Length line gs each = chain Fits Fits (only line gs) _ (only_fits line gs each) (λ v is.
      chain (λ _. Unit {0}) Fits (list line v) _ (any (list line v)) (λ vs _. fits_int (pos (length vs))))
  called_fits function.Connect line gs each = chain (λ _. Unit {0}) Fits (both line gs) _ (any (both line gs))
      (λ vs _. tt)
  called_fits function.Deque line gs each = chain Fits Fits (only_named line (codes "maxlen") gs) _ (only_named_fits
      line (codes "maxlen") gs each) (λ v is.
      chain (λ _. Unit {0}) Fits (int line v) _ (any (int line v)) (λ i _. deques line i))
  called_fits function.CallerPort line gs each = if_so Fits (name_either (codes "Type") (codes "RetType") gs) _ _
      (chain (λ t. type_fits_if d t ≡ true) Fits (type_given line (codes "Type") gs) _ (types_given line
      (codes "Type") gs each) (λ t first.
      chain (λ t. type_fits_if d t ≡ true) Fits (type_given line (codes "RetType") gs) _ (types_given line
      (codes "RetType") gs each) (λ r second.
      closed (tests d kind) (Value-F.New (new.Caller (record { argument = t; result = r }))) _ free (value.rolls-New
      _) (both_so (type_fits_if d t) (type_fits_if d r) first second))))
  called_fits function.CalleePort line gs each = chain Fits Fits (only_named line (codes "method") gs) _
      (only_named_fits line (codes "method") gs each) (λ v is.
      callees line (out-Value v) (opened_value (tests d kind) v free is))
  called_fits function.Block line gs each = chain Fits Fits (only line gs) _ (only_fits line gs each) (λ v is. tt)
  called_fits function.Readers line gs each = chain Fits Fits (only line gs) _ (only_fits line gs each) (λ v is.
      bits term.Reads (λ part is. is) line (out-Value v) (opened_value (tests d kind) v free is))
  called_fits function.Writers line gs each = chain Fits Fits (only line gs) _ (only_fits line gs each) (λ v is.
      bits term.Writes (λ part is. is) line (out-Value v) (opened_value (tests d kind) v free is))
  called_fits function.Callers line gs each = chain Fits Fits (only line gs) _ (only_fits line gs each) (λ v is.
      calls line (out-Value v) (opened_value (tests d kind) v free is))

-- ---- attributes

module _ (m : Elaboration) (shapes : list_all (shape_is_good (design_made m)) m.shapes ≡ true) where
  abbrev Here : Kind → Value → Type 0
  Here kind v = Good (tests (design_made m) kind) held v

  field_there : (w : ℕ) (fs : List Field) (name : List ℕ) → list_all (field_fits (design_made m) w) fs ≡ true
      → Where (λ (f : Field). field_fits (design_made m) w f ≡ true) (field_in fs name)
  field_there w [] name all = tt
  field_there w (f ∷ fs) name all =
      let parts = and_parts (field_fits (design_made m) w f) (list_all (field_fits (design_made m) w) fs) all in
      chosen (Where (λ (f : Field). field_fits (design_made m) w f ≡ true)) (bytes_eq f.name name) (Some f)
      (field_in fs name) parts.0 (field_there w fs name parts.1)

  field_of_signal : (kind : Kind) (r : Reference) (f : Field) → part_fits (design_made m) kind r.part ≡ true
      → role_fits (design_made m) kind r ≡ true → field_fits (design_made m) r.part.width f ≡ true
      → taken_fits (design_made m) kind (taken.Signal (field_part r f)) ≡ true
  field_of_signal kind r f part role is =
      let first = and_parts (is_width f.width) (shape_fits (design_made m) f.width f.shape && nat_le
      (f.lo + f.width) r.part.width) is in
      let second = and_parts (shape_fits (design_made m) f.width f.shape) (nat_le (f.lo + f.width) r.part.width)
      first.1 in
      let width = and_parts (nat_le 1 f.width) (nat_le f.width 128) first.0 in
      let some : 1 ≤ f.width = leb-true _ _ width.0 in
      let le : f.lo + f.width ≤ r.part.width = leb-true _ _ second.1 in
      both_so (part_fits (design_made m) kind (field_part r f).part) _ (some_bits r.part f.lo f.width
      (owner_of (design_made m) kind r.part.owner) (omega (arith, some)) le part)
      (both_so (shape_fits (design_made m) f.width f.shape) _ second.0
      (less_told r (record r.part { lo = r.part.lo + f.lo; width = f.width }) f.shape form.Field refl
      (r.part.owner == 0) r.part.signal (owner_of (design_made m) kind r.part.owner) role))

  of_shape : (kind : Kind) (r : Reference) (s : Option ℕ) (name : List ℕ)
      → part_fits (design_made m) kind r.part ≡ true → role_fits (design_made m) kind r ≡ true
      → shape_fits (design_made m) r.part.width s ≡ true
      → Where (Here kind) (option_map (λ f. value.Taken (taken.Signal f)) (option_map (field_part r) (field_of_shape
      (shape_at m.shapes s) name)))
  of_shape kind r None name part role is = tt
  of_shape kind r (Some s) name part role is = by (slice_get m.shapes s) refl is
    where
      by : (x : Option Shape) → slice_get m.shapes s ≡ x → has_width r.part.width x ≡ true
          → Where (Here kind) (option_map (λ f. value.Taken (taken.Signal f)) (option_map (field_part r)
          (field_of_shape x name)))
      by None at is = tt
      by (Some x) at is =
          let same : x.width ≡ r.part.width = eqb-true _ _ is in
          let good = and_parts (is_width x.width) (list_all (field_fits (design_made m) x.width) x.fields)
          (all_got (shape_is_good (design_made m)) m.shapes s x shapes at) in
          next (field_in x.fields name) (subst (λ (w : ℕ). Where (λ (f : Field). field_fits (design_made m) w f ≡
          true) (field_in x.fields name)) same (field_there x.width x.fields name good.1))
        where
          next : (f : Option Field) → Where (λ (f : Field). field_fits (design_made m) r.part.width f ≡ true) f
              → Where (Here kind) (option_map (λ f. value.Taken (taken.Signal f)) (option_map (field_part r) f))
          next None is = tt
          next (Some f) is = held_taken (design_made m) kind (taken.Signal (field_part r f)) (field_of_signal kind r
              f part role is)

  far_shape : (kind : Kind) (r : Option Reference)
      → Where (Here kind) (option_map (λ f. value.Taken (taken.FarSignal f)) r)
  far_shape kind None = tt
  far_shape kind (Some r) = held_taken (design_made m) kind (taken.FarSignal r) refl

  -- ---- of components below

  abbrev KindHeld : MadeKind → Type 0
  KindHeld k = Each (λ (p : List ℕ × Value). Good (tests (design_made m) k.kind) held p.1) k.raw.attributes

  -- what a child's attribute has taken, seen from above
  pub taken_above : (kind : Kind) (c : ℕ) (k : MadeKind) → child_kind (design_made m) (slice_get kind.children c) ≡ Some
      k.kind
      → (t : Taken) → taken_fits (design_made m) k.kind t ≡ true
      → taken_fits (design_made m) kind (taken_viewed (record { child = Some c; children = k.kind.children }) t) ≡ true
  taken_above kind c k at (taken.Signal r) is = by (r.part.owner == 0) refl (is_port r.role) refl
    where
      -- a port of the child
      port_seen : (own other : Bool) (s : Option Signal) → is_port r.role ≡ true → sees (is_told_of r) own s ≡ true
          → sees (is_told_of r) other s ≡ true
      port_seen own other None port is = never is
      port_seen own other (Some s) port is =
          let parts = and_parts (is_told_of r s) (own || is_port s.role) is in
          let this = same_port r.role s.role (and_parts (same_role r.role s.role) _ parts.0).0 port in
          both_so (is_told_of r s) (other || is_port s.role) parts.0 (either other (is_port s.role) this)
        where
          either : (a b : Bool) → b ≡ true → (a || b) ≡ true
          either true b is = refl
          either false b is = is

      by : (b : Bool) → (r.part.owner == 0) ≡ b → (p : Bool) → is_port r.role ≡ p
          → taken_fits (design_made m) kind (if b && p then taken.Signal (record r {
            part = record r.part
                { owner = c + 1 };
          }) else taken.FarSignal r) ≡ true
      by false same p port = refl
      by true same false port = refl
      by true same true port =
          let zero_owner : r.part.owner ≡ 0 = eqb-true _ _ same in
          let parts = signal_parts (design_made m) k.kind r is in
          let seen : sees (is_told_of r) (r.part.owner == 0) (slice_get k.kind.signals r.part.signal) ≡ true =
          subst (λ (o : ℕ). sees_in (is_told_of r) (r.part.owner == 0) r.part.signal (owner_of (design_made m) k.kind
          o) ≡ true) zero_owner parts.2 in
          let seen_above : sees_in (is_told_of r) (c + 1 == 0) r.part.signal (owner_of (design_made m) kind (suc c))
          ≡ true = ap (sees_in (is_told_of r) (c + 1 == 0) r.part.signal) at ∙ port_seen
          (r.part.owner == 0) (c + 1 == 0) (slice_get k.kind.signals r.part.signal) port seen in
          let own : within r.part (slice_get k.kind.signals r.part.signal) ≡ true =
          subst (λ (o : ℕ). signal_in r.part (owner_of (design_made m) k.kind o) ≡ true) zero_owner parts.0 in
          let next : suc c ≡ c + 1 = omega arith in
          let above : signal_in r.part (owner_of (design_made m) kind (suc c)) ≡ true = ap (signal_in r.part) at ∙
          own in
          both_so _ _ (subst (λ (o : ℕ). signal_in r.part (owner_of (design_made m) kind o) ≡ true) next above)
          (both_so (shape_fits (design_made m) r.part.width r.shape) _ parts.1 (subst (λ (o : ℕ). sees_in
          (is_told_of r) (c + 1 == 0) r.part.signal (owner_of (design_made m) kind o) ≡ true) next seen_above))
  taken_above kind c k at (taken.Child x) is = refl
  taken_above kind c k at (taken.State s) is = refl
  taken_above kind c k at (taken.Method (callee.Own x)) is = ap (λ (o : Option Kind). is_some (of_methods x o)) at ∙ is
  taken_above kind c k at (taken.Method (callee.Port x)) is = ap (λ (o : Option Kind). is_some (of_callers x o)) at ∙ is
  taken_above kind c k at (taken.Method (callee.Child x y)) is = refl
  taken_above kind c k at (taken.Method (callee.ChildPort x y)) is = refl
  taken_above kind c k at (taken.Descendant x) is = refl
  taken_above kind c k at (taken.FarSignal r) is = refl
  taken_above kind c k at taken.FarState is = refl
  taken_above kind c k at taken.FarMethod is = refl

  -- what a component further below has taken
  taken_far : (kind : Kind) (k : MadeKind) (t : Taken)
      → taken_fits (design_made m) kind (taken_viewed (record { child = None; children = k.kind.children }) t) ≡ true
  taken_far kind k (taken.Signal r) = refl
  taken_far kind k (taken.Child x) = refl
  taken_far kind k (taken.State s) = refl
  taken_far kind k (taken.Method (callee.Own x)) = refl
  taken_far kind k (taken.Method (callee.Port x)) = refl
  taken_far kind k (taken.Method (callee.Child x y)) = refl
  taken_far kind k (taken.Method (callee.ChildPort x y)) = refl
  taken_far kind k (taken.Descendant x) = refl
  taken_far kind k (taken.FarSignal r) = refl
  taken_far kind k taken.FarState = refl
  taken_far kind k taken.FarMethod = refl

  viewed_there : (kind : Kind) (k : MadeKind) (view : View) (v : Option Value)
      → Where (Good (tests (design_made m) k.kind) held) v
      → ((t : Taken) → taken_fits (design_made m) k.kind t ≡ true
      → taken_fits (design_made m) kind (taken_viewed view t) ≡ true)
      → Where (Here kind) (option_map (viewed view) v)
  viewed_there kind k view None is so = tt
  viewed_there kind k view (Some v) is so =
      viewed_good (tests (design_made m) k.kind) (tests (design_made m) kind) view (λ t is. is) so v is

  far_attribute : (kind : Kind) (k : Option MadeKind) (name : List ℕ) → Where KindHeld k
      → Where (Here kind) (kind_attribute None k name)
  far_attribute kind None name is = tt
  far_attribute kind (Some k) name is =
      viewed_there kind k (record { child = None; children = k.kind.children }) (get k.raw.attributes name)
      (get_each (Good (tests (design_made m) k.kind) held) k.raw.attributes name is) (λ t _. taken_far kind k t)

  module _ (kinds : Each KindHeld m.kinds) where
    of_child : (fr : Option Frame) (c : ℕ) (name : List ℕ) → is_some (slice_get (kind_in fr).children c) ≡ true
        → Where (Here (kind_in fr)) (child_attribute m.kinds fr c name)
    unfolding kind_of_child
    of_child None c name is = tt
    of_child (Some f) c name is = by (slice_get f.kind.children c) refl is
      where
        by : (x : Option Child) → slice_get f.kind.children c ≡ x → is_some x ≡ true
            → Where (Here f.kind) (kind_attribute (Some c) (slice_get m.kinds (elim x as (λ _. ℕ) [
              | Some c ↦ c.kind
              | None ↦ 0
            ])) name)
        by None at is = never is
        by (Some x) at is = next (slice_get m.kinds x.kind) refl (found_got KindHeld m.kinds x.kind kinds)
          where
            next : (k : Option MadeKind) → slice_get m.kinds x.kind ≡ k → Where KindHeld k
                → Where (Here f.kind) (kind_attribute (Some c) k name)
            next None there each = tt
            next (Some k) there each =
                let kind_there : child_kind (design_made m) (slice_get f.kind.children c) ≡ Some k.kind =
                ap (child_kind (design_made m)) at ∙ (slice_get-map (λ (made : MadeKind). made.kind) m.kinds x.kind
                ∙ ap (option_map (λ (made : MadeKind). made.kind)) there) in
                viewed_there f.kind k (record { child = Some c; children = k.kind.children }) (get k.raw.attributes
                name)
                (get_each (Good (tests (design_made m) k.kind) held) k.raw.attributes name each) (taken_above f.kind
                c k kind_there)

    of_taken : (fr : Option Frame) (t : Taken) (name : List ℕ) → taken_fits (design_made m) (kind_in fr) t ≡ true
        → Where (Here (kind_in fr)) (taken_attribute m fr t name)
    unfolding taken_attribute field_named
    of_taken fr (taken.Signal r) name is =
        let parts = signal_parts (design_made m) (kind_in fr) r is in of_shape (kind_in fr) r r.shape name parts.0
        parts.2 parts.1
    of_taken fr (taken.FarSignal r) name is = far_shape (kind_in fr) (field_named m.shapes r name)
    of_taken fr (taken.Child c) name is = of_child fr c name is
    of_taken fr (taken.Descendant c) name is = far_attribute (kind_in fr) (slice_get m.kinds c) name
        (found_got KindHeld m.kinds c kinds)
    of_taken fr (taken.State s) name is = tt
    of_taken fr (taken.Method c) name is = tt
    of_taken fr taken.FarState name is = tt
    of_taken fr taken.FarMethod name is = tt

    seen_there : (kind : Kind) (v : Option Value) → Where (Good (type_tests (design_made m)) fresh) v
        → Where (Here kind) (option_map member_seen v)
    seen_there kind None is = tt
    seen_there kind (Some v) is =
        seen_good (type_tests (design_made m)) (tests (design_made m) kind) (λ t is. is) (λ role t. refl) v is

    of_own : (s : ConstructedClass) (line : ℕ) (f : Frame) (name : List ℕ)
        → Each (λ (p : List ℕ × Value). FitsClass s (design_made m) f.kind p.1) f.raw.attributes
        → On (attribute_of_own s line f name) (Here f.kind)
    unfolding component_attribute interface_attribute
    of_own class.Component line f name each = unless_so (Here f.kind) (bytes_eq name (codes "clk")) (WrongKind line) _
        (found (Here f.kind) (get f.raw.attributes name) (Unbound line) (get_each (Good (tests (design_made m)
        f.kind) held) f.raw.attributes name each))
    of_own class.Interface line f name each =
        found (Here f.kind) _ (Unbound line) (seen_there f.kind (get f.raw.attributes name)
        (get_each (Good (type_tests (design_made m)) fresh) f.raw.attributes name each))

    abbrev FitsFrame : Frame → Type 0
    FitsFrame f = Each (λ (p : List ℕ × Value). FitsClass f.class (design_made m) f.kind p.1) f.raw.attributes

    own_in : (line : ℕ) (fr : Option Frame) (name : List ℕ) → Where FitsFrame fr
        → On (own_attribute_in line fr name) (Here (kind_in fr))
    own_in line None name each = tt
    own_in line (Some f) name each = of_own f.class line f name each

    member_there : (kind : Kind) (ms : List Member) (name : List ℕ)
        → Each (GoodMember (tests (design_made m) kind) held) ms → Where (Here kind) (member_named ms name)
    unfolding member_named
    member_there kind [] name each = tt
    member_there kind (x ∷ ms) name each = chosen (Where (Here kind)) (bytes_eq x.name name) (Some x.value)
        (member_named ms name)
        each.0 (member_there kind ms name each.1)

    attribute_by : (site : Site) (name : List ℕ) (w : Value-F Value Member) → Where FitsFrame site.frame
        → GoodLayer (tests (design_made m) (kind_in site.frame)) free w
        → On (attribute_at m site name w) (Here (kind_in site.frame))
    unfolding own_attribute
    attribute_by site name Value-F.Own frame is = own_in site.line site.frame name frame
    attribute_by site name (Value-F.Type t) frame is =
        if_so (Here (kind_in site.frame)) (bytes_eq name (codes "nbits")) (Unbound site.line) _
        (held_int (design_made m) (kind_in site.frame) (pos t.width))
    attribute_by site name (Value-F.Taken t) frame is = found (Here (kind_in site.frame)) (taken_attribute m
        site.frame t name) (Unbound site.line) (of_taken site.frame t name is)
    attribute_by site name (Value-F.Interface ms) frame is = found (Here (kind_in site.frame)) (member_named ms
        name) (Unbound site.line) (member_there (kind_in site.frame) ms name is.1)
    attribute_by site name _ frame is = tt

    -- an attribute
    pub attribute_fits : (site : Site) (name : List ℕ) (v : Value) → Where FitsFrame site.frame
        → Good (tests (design_made m) (kind_in site.frame)) free v
        → On (attribute m site name v) (Here (kind_in site.frame))
    unfolding attribute
    attribute_fits site name v frame is = attribute_by site name (out-Value v) frame (opened_value
        (tests (design_made m) (kind_in site.frame)) v free is)

-- ---- blocks and types

block_there : (bs : List Block) (i : ℕ) (all : List Block) (d : Design) (kind : Kind) (name : List ℕ)
    → kind.blocks ≡ all
    → ((j : ℕ) (b : Block) → slice_get bs j ≡ Some b → slice_get all (i + j) ≡ Some b)
    → Where (λ (t : Term). term_fits d kind t ≡ true) (block_from i bs name)
block_there [] i all d kind name is at = tt
block_there (b ∷ bs) i all d kind name is at =
    chosen (Where (λ (t : Term). term_fits d kind t ≡ true)) (bytes_eq b.name name) (Some (block_term i b.sort))
    (block_from (i + 1) bs name)
    (first b.sort) (block_there bs (i + 1) all d kind name is (λ j c here. subst (λ (n : ℕ). slice_get all n ≡ Some
    c) (omega arith) (at (suc j) c here)))
  where
    there : is_some (slice_get kind.blocks i) ≡ true
    there = ap (λ (bs : List Block). is_some (slice_get bs i)) is ∙ ap is_some (subst (λ (n : ℕ). slice_get all n ≡
        Some b) (omega arith) (at 0 b refl))

    first : (s : BlockSort) → term_fits d kind (block_term i s) ≡ true
    first sort.Edge = refl
    first sort.Update = there
    first sort.Once = there

-- the term of a block
pub block_fits : (d : Design) (kind : Kind) (name : List ℕ)
    → Where (λ (t : Term). Good (tests d kind) free (value.Term t)) (block_from 0 kind.blocks name)
block_fits d kind name =
    where_so (λ (t : Term). term_fits d kind t ≡ true) (λ (t : Term). Good (tests d kind) free (value.Term t))
    (block_from 0 kind.blocks name) (fits_term d kind)
    (block_there kind.blocks 0 kind.blocks d kind name refl (λ j b here. subst (λ (n : ℕ). slice_get kind.blocks n ≡
    Some b) (omega arith) here))

found_in : (p q : ℕ → Bool) (xs : List ℕ) → list_all p xs ≡ true → Where (λ (x : ℕ). p x ≡ true) (find q xs)
found_in p q [] all = tt
found_in p q (x ∷ xs) all =
    let parts = and_parts (p x) (list_all p xs) all in
    chosen (Where (λ (x : ℕ). p x ≡ true)) (q x) (Some x) (find q xs) parts.0 (found_in p q xs parts.1)

-- the type of a name
pub named_type_fits : (d : Design) (name : List ℕ) → Where (Good (type_tests d) plain) (type_named name)
unfolding named_width
named_type_fits d name = by (named_width name) (found_in is_width (is_type_name name) (range_with_len 1 128) refl)
  where
    by : (w : Option ℕ) → Where (λ (w : ℕ). is_width w ≡ true) w
        → Where (Good (type_tests d) plain) (option_map (λ width. value.Type (record {
          width = width;
          shape = None;
        })) w)
    by None is = tt
    by (Some w) is = closed (type_tests d) (Value-F.Type _) _ plain (value.rolls-Type _) (both_so (is_width w) true
        is refl)
