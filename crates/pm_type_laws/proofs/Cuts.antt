-- Fields, slices and bits.
use Rattle.std.proofs.Common.{◌≡◌, ◌+◌, ◌-◌, ◌==◌, ◌&&◌, ◌≤◌, ◌<◌, ℕ, ℤ, suc, Bool, true, false, List, [], ◌∷◌, refl, sym, ap, subst, map, length, arith, leb-true, ltb-true, eqb-true}
use Rattle.std.specs.Prelude.{IsTrue, if◌then◌else◌, slice_get, slice_index_or, nat_eq, nat_lt, nat_le, pos, negsuc, codes, Option, Some, None, Ok}
use Rattle.std.specs.Str.{bytes_eq}
use Rattle.std.specs.List.{list_all}
use Rattle.std.specs.Option.{option_eq}
use Rattle.std.proofs.lemmas.Bool.{and_parts, le-leb, eq-eqb, false≢true}
use Rattle.pm_design.specs.declared.body.Ex.{Ex}
use Rattle.pm_design.specs.declared.signal.Field.{Field}
use Rattle.pm_design.specs.declared.signal.Shape.{Shape}
use Rattle.pm_design.specs.Lookups.{is_readable, lies_within, signal_of}
use Rattle.pm_design.specs.Widths.{is_width}
use Rattle.pm_values.specs.declared.reference.Form.{Form}
use Rattle.pm_values.specs.declared.reference.Form.TheVariants as form
use Rattle.pm_values.specs.declared.reference.Reference.{Reference}
use Rattle.pm_values.specs.declared.reference.ValueType.{ValueType}
use Rattle.pm_elab.specs.Attributes.{field_in, field_of_shape, shape_at}
use Rattle.pm_elab.specs.Values.{bits_of}
use Rattle.pm_typing.specs.declared.thing.Cut.{Cut}
use Rattle.pm_typing.specs.Counted.{and_then}
use Rattle.pm_typing.specs.Operands.{same_type}
use Rattle.pm_typing.specs.References.{type_of, element_type, field_of, signal_field, temporary_field, field_parts, pick_field, type_attribute, method_attribute, attribute, slice_range, bit_range, cut_parts, cut_width, cut, slice, sliced, bit}
use Rattle.pm_typing.specs.Sites.{Scope}
use Rattle.pm_typing.specs.Things as things
use Rattle.pm_typing.specs.Things.{Thing}
use Rattle.pm_type_laws.specs.Views.{Sees, View, is_temporary}
use Rattle.pm_type_laws.specs.Good.{has_shape, fills, is_type, is_field, is_packed, is_reference, is_told}
use Rattle.pm_elab_laws.specs.Told.{is_whole_form, same_role}
use Rattle.pm_type_laws.proofs.Yields.{On, Where, test_on}
use Rattle.pm_type_laws.proofs.Things.{IsThing, IsPick, are_elements}
use Rattle.pm_type_laws.proofs.Values.{either, find_in, both}
use Rattle.pm_type_laws.proofs.Named.{own_attribute, childs_attribute, member_is, state_is}

-- ---- types

pub same_shape : (s : Option ℕ) → option_eq nat_eq s s ≡ true
same_shape None = refl
same_shape (Some k) = eq-eqb k k refl

-- a type is itself
pub same_refl : (ty : ValueType) → IsTrue (same_type ty ty)
same_refl ty = both (ty.width == ty.width) _ (eq-eqb ty.width ty.width refl) (same_shape ty.shape)

-- types that are one have one width
pub same_width : (a b : ValueType) → IsTrue (same_type a b) → a.width ≡ b.width
same_width a b same = eqb-true _ _ (and_parts (a.width == b.width) (option_eq nat_eq a.shape b.shape) same).0

pub shape_eq : (s t : Option ℕ) → option_eq nat_eq s t ≡ true → s ≡ t
shape_eq None None same = refl
shape_eq None (Some k) same = absurd (false≢true same)
shape_eq (Some k) None same = absurd (false≢true same)
shape_eq (Some j) (Some k) same = ap (λ (n : ℕ). Some n) (eqb-true j k same)

-- a type has 1 to 128 bits
pub type_width : (shapes : List Shape) (ty : ValueType) → IsTrue (is_type shapes ty) → (1 ≤ ty.width) × (ty.width ≤ 128)
type_width shapes ty is =
    let wide = and_parts (nat_le 1 ty.width) (nat_le ty.width 128) (and_parts (is_width ty.width) (fills shapes ty.width ty.shape) is).0 in
    (leb-true _ _ wide.0, leb-true _ _ wide.1)

-- Bits of 1 to 128 bits are a type
pub bits_type : (shapes : List Shape) (n : ℕ) → 1 ≤ n → n ≤ 128 → IsTrue (is_type shapes (bits_of n))
bits_type shapes n some few =
    both (is_width n) true (both (nat_le 1 n) (nat_le n 128) (le-leb 1 n some) (le-leb n 128 few)) refl

-- some bits, so many from one on, with a type
abbrev pub Within : List Shape → ℕ → ℕ → ValueType → Type 0
Within shapes width lo ty = (lo + ty.width ≤ width) × IsTrue (is_type shapes ty)

abbrev pub field_value : Field → ValueType
field_value f = record { width = f.width; shape = f.shape }

field_found : (shapes : List Shape) (width : ℕ) (fs : List Field) (name : List ℕ)
    → IsTrue (list_all (is_field shapes width) fs)
    → Where (λ (f : Field). Within shapes width f.lo (field_value f)) (field_in fs name)
field_found shapes width [] name all = tt
field_found shapes width (f ∷ fs) name all =
    let parts = and_parts (is_field shapes width f) (list_all (is_field shapes width) fs) all in
    let here = and_parts (nat_le (f.lo + f.width) width) (is_type shapes (field_value f)) parts.0 in
    either (λ (f : Field). Within shapes width f.lo (field_value f)) (bytes_eq f.name name) (Some f) (field_in fs name)
    (leb-true _ _ here.0, here.1) (field_found shapes width fs name parts.1)

-- a field of a type lies within it
pub field_is : (shapes : List Shape) (ty : ValueType) (name : List ℕ) → IsTrue (list_all (is_packed shapes) shapes)
    → IsTrue (is_type shapes ty)
    → Where (λ (f : Field). Within shapes ty.width f.lo (field_value f)) (field_of shapes ty name)
field_is shapes ty name packed is = by ty.shape (and_parts (is_width ty.width) (fills shapes ty.width ty.shape) is).1
  where
    in_shape : (shape : Option Shape) → Where (λ (s : Shape). IsTrue (is_packed shapes s)) shape
        → IsTrue (has_shape shapes ty.width shape)
        → Where (λ (f : Field). Within shapes ty.width f.lo (field_value f)) (field_of_shape shape name)
    in_shape None is filled = tt
    in_shape (Some s) is filled =
        let parts = and_parts (nat_lt 0 (length s.fields)) _ is in
        let fields = (and_parts _ (list_all (is_field shapes s.width) s.fields) parts.1).1 in
        subst (λ (n : ℕ). Where (λ (f : Field). Within shapes n f.lo (field_value f)) (field_in s.fields name)) (eqb-true s.width ty.width filled)
        (field_found shapes s.width s.fields name fields)

    by : (shape : Option ℕ) → IsTrue (fills shapes ty.width shape)
        → Where (λ (f : Field). Within shapes ty.width f.lo (field_value f)) (field_of_shape (shape_at shapes shape) name)
    by None filled = tt
    by (Some k) filled = in_shape (slice_get shapes k) (find_in (is_packed shapes) shapes k packed) filled

-- ---- references

-- some bits of a reference
abbrev pub part_of : Reference → ℕ → ValueType → Form → Reference
part_of r lo ty form = record r { part = record r.part { lo = r.part.lo + lo; width = ty.width }; shape = ty.shape; form = form }

-- some bits of a reference that lie within it are a reference
pub part_is : (scope : Scope) (r : Reference) (lo : ℕ) (ty : ValueType) (form : Form) → IsTrue (is_reference scope r)
    → Within scope.design.design.shapes r.part.width lo ty → is_whole_form form ≡ false
    → IsTrue (is_reference scope (part_of r lo ty form))
part_is scope r lo ty form is within cut =
    let parts = and_parts (is_readable scope.design.design scope.kind r.part && is_told scope r) _ is in
    let known = and_parts (is_readable scope.design.design scope.kind r.part) (is_told scope r) parts.0 in
    let seen = and_parts (lies_within scope.design.design scope.kind r.part) _ known.0 in
    let inside = and_parts (nat_lt 0 r.part.width)
    (nat_le (r.part.lo + r.part.width) (signal_of scope.design.design scope.kind r.part).width) seen.0 in
    let below : r.part.lo + r.part.width ≤ (signal_of scope.design.design scope.kind r.part).width = leb-true _ _ inside.1 in
    let wide = type_width scope.design.design.shapes ty within.1 in
    let here : IsTrue (lies_within scope.design.design scope.kind (part_of r lo ty form).part) =
    both (nat_lt 0 ty.width) _ (le-leb 1 ty.width wide.0)
    (le-leb (r.part.lo + lo + ty.width) (signal_of scope.design.design scope.kind r.part).width (omega (arith, below, within.0))) in
    let role = (and_parts (same_role r.role (signal_of scope.design.design scope.kind r.part).role) _ known.1).0 in
    let told : IsTrue (is_told scope (part_of r lo ty form)) =
    both (same_role r.role (signal_of scope.design.design scope.kind r.part).role) _ role (rw (cut) refl) in
    both (is_readable scope.design.design scope.kind (part_of r lo ty form).part && is_told scope (part_of r lo ty form)) _
    (both (is_readable scope.design.design scope.kind (part_of r lo ty form).part) _
    (both (lies_within scope.design.design scope.kind (part_of r lo ty form).part) _ here seen.1) told) within.1

-- some bits of a thing, and their type
pub record IsCut (width : ℕ) (c : Cut) : Type 0 where
  pub some : 0 < c.width
  pub within : c.lo + c.width ≤ width
  pub part : is_whole_form c.form ≡ false

cut_within : (shapes : List Shape) (width : ℕ) (c : Cut) → width ≤ 128 → IsCut width c
    → Within shapes width c.lo (bits_of c.width)
cut_within shapes width c few is = (is.within, bits_type shapes c.width is.some (omega (arith, is.within, few)))

slice_cut : (width : ℕ) (lo hi : ℤ) → Where (IsCut width) (slice_range width lo hi)
unfolding slice_range
slice_cut width (pos lo) (pos hi) = by (nat_lt lo hi && nat_le hi width) refl
  where
    by : (b : Bool) → (nat_lt lo hi && nat_le hi width) ≡ b
        → Where (IsCut width) (if b then Some (record { lo = lo; width = hi - lo; form = form.Slice }) else None)
    by true is =
        let parts = and_parts (nat_lt lo hi) (nat_le hi width) is in
        record { some = omega (arith, ltb-true _ _ parts.0); within = omega (arith, ltb-true _ _ parts.0, leb-true _ _ parts.1); part = refl }
    by false is = tt
slice_cut width (pos lo) (negsuc hi) = tt
slice_cut width (negsuc lo) (pos hi) = tt
slice_cut width (negsuc lo) (negsuc hi) = tt

bit_cut : (width : ℕ) (k : ℤ) → Where (IsCut width) (bit_range width k)
unfolding bit_range
bit_cut width (pos k) = by (nat_lt k width) refl
  where
    by : (b : Bool) → nat_lt k width ≡ b
        → Where (IsCut width) (if b then Some (record { lo = k; width = 1; form = form.Bit }) else None)
    by true is = record { some = omega arith; within = omega (arith, ltb-true _ _ is); part = refl }
    by false is = tt
bit_cut width (negsuc k) = tt

-- ---- elements of one type

all_map : {A B : Type 0} (p : A → Bool) (q : B → Bool) (g : A → B) (xs : List A)
    → ((a : A) → IsTrue (p a) → IsTrue (q (g a)))
    → IsTrue (list_all p xs) → IsTrue (list_all q (map g xs))
all_map p q g [] each all = refl
all_map p q g (x ∷ xs) each all =
    let parts = and_parts (p x) (list_all p xs) all in
    both (q (g x)) _ (each x parts.0) (all_map p q g xs each parts.1)

length_map : {A B : Type 0} (g : A → B) (xs : List A) → length (map g xs) ≡ length xs
length_map g [] = refl
length_map g (x ∷ xs) = ap suc (length_map g xs)

first_type : (g : Reference → Reference) (ty : ValueType) (rs : List Reference) → 0 < length rs
    → ((r : Reference) → type_of (g r) ≡ ty)
    → element_type (map g rs) ≡ ty
first_type g ty [] some each = absurd (omega (arith, some))
first_type g ty (r ∷ rs) some each = each r

module _ (s : View) (scope : Scope) where
  part_elements : (rs : List Reference) (lo : ℕ) (ty : ValueType) (form : Form) → IsTrue (are_elements scope rs)
      → Within scope.design.design.shapes (element_type rs).width lo ty → is_whole_form form ≡ false → 0 < length rs
      → IsTrue (are_elements scope (map (λ r. part_of r lo ty form) rs))
  part_elements rs lo ty form all within cut some =
      let g : Reference → Reference = λ r. part_of r lo ty form in
      subst (λ (t : ValueType). IsTrue (list_all (λ r. is_reference scope r && same_type (type_of r) t) (map g rs)))
      (sym (first_type g ty rs some (λ r. refl)))
      (all_map (λ r. is_reference scope r && same_type (type_of r) (element_type rs)) (λ r. is_reference scope r && same_type (type_of r) ty) g rs
      (λ r is.
      let parts = and_parts (is_reference scope r) _ is in
      let wide : r.part.width ≡ (element_type rs).width = same_width (type_of r) (element_type rs) parts.1 in
      both (is_reference scope (g r)) _
      (part_is scope r lo ty form parts.0 (omega (arith, wide, within.0), within.1) cut) (same_refl ty)) all)

  -- some bits of each element are elements
  pub part_pick : (e : Ex) (rs : List Reference) (lo : ℕ) (ty : ValueType) (form : Form) → IsPick s scope e rs
      → Within scope.design.design.shapes (element_type rs).width lo ty → is_whole_form form ≡ false
      → IsPick s scope e (map (λ r. part_of r lo ty form) rs)
  part_pick e rs lo ty form is within partial =
      let same : length (map (λ r. part_of r lo ty form) rs) ≡ length rs = length_map (λ r. part_of r lo ty form) rs in
      record {
        fine = is.fine;
        reads = is.reads;
        some = omega (arith, same, is.some);
        reach = omega (arith, same, is.reach);
        elements = part_elements rs lo ty form is.elements within partial is.some;
      }

  -- a temporary that is there, and bits of it
  pub record IsThere (t lo : ℕ) (ty : ValueType) : Type 0 where
    pub assigned : IsTrue (s.assigned t)
    pub there : t < length s.sight.temps
    pub within : lo + ty.width ≤ slice_index_or s.sight.temps t 0
    pub typed : IsTrue (is_type scope.design.design.shapes ty)

  pub temporary_parts : (t lo : ℕ) (ty : ValueType) → IsTrue (is_temporary s scope t lo ty) → IsThere t lo ty
  temporary_parts t lo ty is =
      let set = and_parts (s.assigned t) _ is in
      let parts = and_parts (nat_lt t (length s.sight.temps)) _ set.1 in
      let more = and_parts (nat_le (lo + ty.width) (slice_index_or s.sight.temps t 0)) _ parts.1 in
      record { assigned = set.0; there = ltb-true _ _ parts.0; within = leb-true _ _ more.0; typed = more.1 }

  temporary_part : (t lo at : ℕ) (ty part : ValueType) → IsTrue (is_temporary s scope t lo ty)
      → Within scope.design.design.shapes ty.width at part → IsTrue (is_temporary s scope t (lo + at) part)
  temporary_part t lo at ty part is within =
      let parts = temporary_parts t lo ty is in
      both (s.assigned t) _ parts.assigned
      (both (nat_lt t (length s.sight.temps)) _ (le-leb (suc t) (length s.sight.temps) parts.there)
      (both (nat_le (lo + at + part.width) (slice_index_or s.sight.temps t 0)) _
      (le-leb _ _ (omega (arith, parts.within, within.0))) within.1))

  pub element_is : (rs : List Reference) → 0 < length rs → IsTrue (are_elements scope rs)
      → IsTrue (is_type scope.design.design.shapes (element_type rs))
  element_is [] some all = absurd (omega (arith, some))
  element_is (r ∷ rs) some all =
      let here = (and_parts _ (list_all (λ x. is_reference scope x && same_type (type_of x) (type_of r)) rs) all).0 in
      (and_parts _ (is_type scope.design.design.shapes (type_of r)) (and_parts (is_reference scope r) _ here).0).1

  -- ---- attributes

  signal_attribute : (line : ℕ) (r : Reference) (f : Option Field) → IsTrue (is_reference scope r)
      → Where (λ (f : Field). Within scope.design.design.shapes r.part.width f.lo (field_value f)) f
      → On (IsThing s scope) (signal_field line r f)
  signal_attribute line r (Some f) is within = part_is scope r f.lo (field_value f) form.Field is within refl
  signal_attribute line r None is within = tt

  temporary_attribute : (line t lo : ℕ) (ty : ValueType) (f : Option Field) → IsTrue (is_temporary s scope t lo ty)
      → Where (λ (f : Field). Within scope.design.design.shapes ty.width f.lo (field_value f)) f
      → On (IsThing s scope) (temporary_field line t lo f)
  temporary_attribute line t lo ty (Some f) is within = temporary_part t lo f.lo ty (field_value f) is within
  temporary_attribute line t lo ty None is within = tt

  pick_attribute : (line : ℕ) (e : Ex) (rs : List Reference) (f : Option Field) → IsPick s scope e rs
      → Where (λ (f : Field). Within scope.design.design.shapes (element_type rs).width f.lo (field_value f)) f
      → On (IsThing s scope) (pick_field line e rs f)
  unfolding field_parts
  pick_attribute line e rs (Some f) is within = part_pick e rs f.lo (field_value f) form.Field is within refl
  pick_attribute line e rs None is within = tt

  method_is : (line : ℕ) (t : Thing) (name : List ℕ) → IsThing s scope t
      → On (IsThing s scope) (method_attribute line t name)
  method_is line t name is = test_on (IsThing s scope) (bytes_eq name (codes "rdy")) (Ok t) _ (λ _. is) tt

  type_is : (line : ℕ) (ty : ValueType) (name : List ℕ) → On (IsThing s scope) (type_attribute line ty name)
  unfolding type_attribute
  type_is line ty name = test_on (IsThing s scope) (bytes_eq name (codes "nbits")) (Ok (things.integer (pos ty.width))) _ (λ _. tt) tt

  -- an attribute of a thing
  pub attribute_is : Sees s scope → (line : ℕ) (name : List ℕ) (t : Thing) → IsThing s scope t
      → On (IsThing s scope) (attribute scope line name t)
  unfolding attribute
  attribute_is sees line name things.own is = own_attribute s scope sees line name
  attribute_is sees line name (things.child k) is = childs_attribute s scope sees line k name (ltb-true _ _ is)
  attribute_is sees line name (things.members whose ms) is = member_is s scope sees line whose ms name is
  attribute_is sees line name (things.of_type ty) is = type_is line ty name
  attribute_is sees line name (things.state k) is = state_is s scope sees line k name is
  attribute_is sees line name (things.method c) is = method_is line (things.ready c) name is
  attribute_is sees line name (things.signal r) is =
      signal_attribute line r _ is (field_is scope.design.design.shapes (type_of r) name sees.made.shapes (and_parts _ (is_type scope.design.design.shapes (type_of r)) is).1)
  attribute_is sees line name (things.temporary t lo ty) is =
      temporary_attribute line t lo ty _ is (field_is scope.design.design.shapes ty name sees.made.shapes (temporary_parts t lo ty is).typed)
  attribute_is sees line name (things.pick e rs) is =
      pick_attribute line e rs _ is (field_is scope.design.design.shapes (element_type rs) name sees.made.shapes (element_is rs is.some is.elements))
  attribute_is sees line name (things.value e ty) is = tt
  attribute_is sees line name _ is = tt

  -- ---- bits and slices

  signal_cut : (line : ℕ) (r : Reference) (c : Option Cut) → IsTrue (is_reference scope r)
      → Where (IsCut r.part.width) c
      → On (IsThing s scope) (cut line c (things.signal r))
  unfolding cut
  signal_cut line r None is cuts = tt
  signal_cut line r (Some c) is cuts =
      let wide = type_width scope.design.design.shapes (type_of r) (and_parts _ (is_type scope.design.design.shapes (type_of r)) is).1 in
      part_is scope r c.lo (bits_of c.width) c.form is (cut_within scope.design.design.shapes r.part.width c wide.1 cuts) cuts.part

  temporary_cut_is : (line t lo : ℕ) (ty : ValueType) (c : Option Cut) → IsTrue (is_temporary s scope t lo ty)
      → Where (IsCut ty.width) c
      → On (IsThing s scope) (cut line c (things.temporary t lo ty))
  unfolding cut
  temporary_cut_is line t lo ty None is cuts = tt
  temporary_cut_is line t lo ty (Some c) is cuts =
      let wide = type_width scope.design.design.shapes ty (temporary_parts t lo ty is).typed in
      temporary_part t lo c.lo ty (bits_of c.width) is (cut_within scope.design.design.shapes ty.width c wide.1 cuts)

  pick_cut : (line : ℕ) (e : Ex) (rs : List Reference) (c : Option Cut) → IsPick s scope e rs
      → Where (IsCut (element_type rs).width) c
      → On (IsThing s scope) (cut line c (things.pick e rs))
  unfolding cut cut_parts
  pick_cut line e rs None is cuts = tt
  pick_cut line e rs (Some c) is cuts =
      let wide = type_width scope.design.design.shapes (element_type rs) (element_is rs is.some is.elements) in
      part_pick e rs c.lo (bits_of c.width) c.form is (cut_within scope.design.design.shapes (element_type rs).width c wide.1 cuts) cuts.part

  -- some bits of a thing, by how wide it is
  cut_is : (range : ℕ → Option Cut) → ((n : ℕ) → Where (IsCut n) (range n)) → (line : ℕ) (t : Thing) → IsThing s scope t
      → On (IsThing s scope) (and_then (cut_width line t) (λ width. cut line (range width) t))
  unfolding cut_width
  cut_is range cuts line (things.signal r) is = signal_cut line r (range r.part.width) is (cuts r.part.width)
  cut_is range cuts line (things.temporary t lo ty) is = temporary_cut_is line t lo ty (range ty.width) is (cuts ty.width)
  cut_is range cuts line (things.pick e rs) is = pick_cut line e rs (range (element_type rs).width) is (cuts (element_type rs).width)
  cut_is range cuts line _ is = tt

  -- the bit `x[k]`
  pub bit_is : (line : ℕ) (k : ℤ) (t : Thing) → IsThing s scope t → On (IsThing s scope) (bit line k t)
  unfolding bit
  bit_is line k t is = cut_is (λ width. bit_range width k) (λ width. bit_cut width k) line t is

  -- the slice `x[lo:hi]`
  pub sliced_is : (line : ℕ) (lo hi t : Thing) → IsThing s scope t → On (IsThing s scope) (sliced line lo hi t)
  unfolding sliced slice
  sliced_is line (things.integer lo) (things.integer hi) t is =
      cut_is (λ width. slice_range width lo hi) (λ width. slice_cut width lo hi) line t is
  sliced_is line _ _ t is = tt
