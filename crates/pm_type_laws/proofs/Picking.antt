-- Elements by an index.
use Rattle.std.proofs.Common.{◌≡◌, ◌+◌, ◌==◌, ◌&&◌, ◌≤◌, ◌<◌, ◌^◌, ◌++◌, ℕ, ℤ, zero, suc, Bool, true, false, List, [], ◌∷◌, refl, sym, ap, subst, take, length, arith, eqb-true}
use Rattle.std.specs.Prelude.{IsTrue, if◌then◌else◌, slice_get, pos, negsuc, Option, Some, None, Ok}
use Rattle.std.specs.List.{list_all}
use Rattle.std.proofs.lemmas.Bool.{and_parts}
use Rattle.std.proofs.lemmas.Nat.{pow_pos}
use Rattle.pm_design.specs.Settings.{reads_assigned}
use Rattle.pm_design.specs.Typing.{has_width, typing}
use Rattle.pm_values.specs.declared.reference.Form.TheVariants as form
use Rattle.pm_values.specs.declared.reference.Reference.{Reference}
use Rattle.pm_values.specs.declared.reference.ValueType.{ValueType}
use Rattle.pm_values.specs.declared.value.Value.{Value}
use Rattle.pm_elab.specs.Values.{bits_of}
use Rattle.pm_typing.specs.declared.fault.TypeFault.TheVariants.{WidthMismatch, NotAllowedHere}
use Rattle.pm_typing.specs.Counted.{and_then, fail, lift, nodes, pure, ◌>>◌}
use Rattle.pm_typing.specs.Names.{seen}
use Rattle.pm_typing.specs.Operands.{Typed, is_bits, same_type}
use Rattle.pm_typing.specs.Picks.{item_if, item, signal_at, signal_seen, signals_seen, filled, has_bits, bit_part, bits_from, bit_parts, elements, are_alike, in_reach, picked, dynamic}
use Rattle.pm_typing.specs.References.{element_type, type_of}
use Rattle.pm_typing.specs.Sites.{Scope}
use Rattle.pm_typing.specs.Things as things
use Rattle.pm_typing.specs.Things.{Thing}
use Rattle.pm_type_laws.specs.Views.{Sees, View}
use Rattle.pm_type_laws.specs.Good.{is_reference, is_type, is_value}
use Rattle.pm_type_laws.proofs.Yields.{On, Where, Yields, and_on, test_on, bind, done, failed, lifted, test, some_nodes}
use Rattle.pm_type_laws.proofs.Things.{IsThing, IsPick, IsTyped}
use Rattle.pm_type_laws.proofs.Values.{find_in, seen_thing, both}
use Rattle.pm_type_laws.proofs.Cuts.{bits_type, part_is, type_width}

abbrev are_references : Scope → List Reference → Bool
are_references scope rs = list_all (is_reference scope) rs

module _ (s : View) (scope : Scope) (sees : Sees s scope) where
  item_is_if : (line : ℕ) (whose : Option ℕ) (v : Option Value)
      → Where (λ (v : Value). IsTrue (is_value scope whose v)) v
      → On (IsThing s scope) (item_if line whose v)
  item_is_if line whose (Some v) is = seen_thing s scope sees line whose v is
  item_is_if line whose None is = tt

  -- an element of a list
  pub item_is : (line : ℕ) (whose : Option ℕ) (vs : List Value) (k : ℤ) → IsTrue (list_all (is_value scope whose) vs)
      → On (IsThing s scope) (item line whose vs k)
  unfolding item
  item_is line whose vs (pos k) all = item_is_if line whose (slice_get vs k) (find_in (is_value scope whose) vs k all)
  item_is line whose vs (negsuc k) all = tt

  -- ---- Bits as index

  signal_is : (line : ℕ) (t : Thing) → IsThing s scope t
      → On (λ (r : Reference). IsTrue (is_reference scope r)) (signal_at line t)
  signal_is line (things.signal r) is = is
  signal_is line _ is = tt

  append_all : (rs : List Reference) (r : Reference) → IsTrue (are_references scope rs) → IsTrue (is_reference scope r)
      → IsTrue (are_references scope (rs ++ r ∷ []))
  append_all [] r all is = both (is_reference scope r) true is refl
  append_all (x ∷ rs) r all is =
      let parts = and_parts (is_reference scope x) (are_references scope rs) all in
      both (is_reference scope x) _ parts.0 (append_all rs r parts.1 is)

  signals_are : (line : ℕ) (whose : Option ℕ) (rs : List Reference) (vs : List Value) → IsTrue (are_references scope rs)
      → IsTrue (list_all (is_value scope whose) vs)
      → On (λ (rs : List Reference). IsTrue (are_references scope rs)) (signals_seen line whose rs vs)
  unfolding signals_seen signal_seen
  signals_are line whose rs [] all values = all
  signals_are line whose rs (v ∷ vs) all values =
      let parts = and_parts (is_value scope whose v) (list_all (is_value scope whose) vs) values in
      and_on (λ (r : Reference). IsTrue (is_reference scope r)) (λ (rs : List Reference). IsTrue (are_references scope rs))
      (and_then (seen line whose v) (signal_at line)) (λ r. signals_seen line whose (rs ++ r ∷ []) vs)
      (and_on (IsThing s scope) (λ (r : Reference). IsTrue (is_reference scope r)) (seen line whose v) (signal_at line)
      (seen_thing s scope sees line whose v parts.0) (λ t is. signal_is line t is))
      (λ r is. signals_are line whose (rs ++ r ∷ []) vs (append_all rs r all is) parts.1)

  -- references, at least one
  record Some_of (rs : List Reference) : Type 0 where
    some : 0 < length rs
    all : IsTrue (are_references scope rs)

  filled_is : (line : ℕ) (rs : List Reference) → IsTrue (are_references scope rs) → On Some_of (filled line rs)
  filled_is line [] all = tt
  filled_is line (r ∷ rs) all = record { some = omega arith; all = all }

  bits_are : (r : Reference) (k n : ℕ) → IsTrue (is_reference scope r) → k + n ≤ r.part.width
      → IsTrue (are_references scope (bits_from r k n))
  unfolding bits_from
  bits_are r k zero is within = refl
  bits_are r k (suc n) is within =
      both (is_reference scope (bit_part r k)) _
      (part_is scope r k (bits_of 1) form.Bit is (omega (arith, within), bits_type scope.design.design.shapes 1 (omega arith) (omega arith)) refl)
      (bits_are r (k + 1) n is (omega (arith, within)))

  bits_some : (r : Reference) (k n : ℕ) → length (bits_from r k n) ≡ n
  unfolding bits_from
  bits_some r k zero = refl
  bits_some r k (suc n) = ap suc (bits_some r (k + 1) n)

  -- what an index chooses among
  elements_are : (line : ℕ) (t : Thing) → IsThing s scope t → On Some_of (elements line t)
  unfolding elements
  elements_are line (things.signal r) is =
      test_on Some_of (has_bits r.form) (Ok (bit_parts r)) _
      (λ _.
      let wide = type_width scope.design.design.shapes (type_of r) (and_parts _ (is_type scope.design.design.shapes (type_of r)) is).1 in
      let count = bits_some r 0 r.part.width in
      record { some = omega (arith, wide.0, count); all = bits_are r 0 r.part.width is (omega arith) }) tt
  elements_are line (things.items whose vs) is =
      and_on (λ (rs : List Reference). IsTrue (are_references scope rs)) Some_of (signals_seen line whose [] vs) (filled line)
      (signals_are line whose [] vs refl is) (filled_is line)
  elements_are line _ is = tt

  take_elements : (n : ℕ) (ty : ValueType) (rs : List Reference) → IsTrue (are_references scope rs)
      → IsTrue (list_all (λ r. same_type (type_of r) ty) rs)
      → IsTrue (list_all (λ r. is_reference scope r && same_type (type_of r) ty) (take n rs))
  take_elements zero ty rs all alike = refl
  take_elements (suc n) ty [] all alike = refl
  take_elements (suc n) ty (r ∷ rs) all alike =
      let here = and_parts (is_reference scope r) (are_references scope rs) all in
      let same = and_parts (same_type (type_of r) ty) (list_all (λ r. same_type (type_of r) ty) rs) alike in
      both (is_reference scope r && same_type (type_of r) ty) _ (both (is_reference scope r) _ here.0 same.0) (take_elements n ty rs here.1 same.1)

  first_taken : (n : ℕ) (rs : List Reference) → 0 < n → element_type (take n rs) ≡ element_type rs
  first_taken zero rs some = absurd (omega (arith, some))
  first_taken (suc n) [] some = refl
  first_taken (suc n) (r ∷ rs) some = refl

  taken_length : (n : ℕ) (rs : List Reference)
      → (length (take n rs) ≤ n) × (0 < n → 0 < length rs → 0 < length (take n rs))
  taken_length zero rs = (omega arith, λ some _. some)
  taken_length (suc n) [] = (omega arith, λ _ some. some)
  taken_length (suc n) (r ∷ rs) = let more = taken_length n rs in (omega (arith, more.0), λ _ _. omega arith)

  reached : (index : Typed) (rs : List Reference) → IsTyped s scope index → Some_of rs → IsTrue (are_alike rs)
      → IsPick s scope index.expression (in_reach index.ty.width rs)
  unfolding are_alike
  reached index rs typed is alike =
      let n : ℕ = 2 ^ index.ty.width in
      let some : 0 < n = pow_pos index.ty.width in
      let wide = and_parts (has_width s.sight index.ty.width index.expression) _ typed in
      let fine = and_parts (typing s.sight index.expression).fine ((typing s.sight index.expression).width == index.ty.width) wide.0 in
      let same : (typing s.sight index.expression).width ≡ index.ty.width = eqb-true _ _ fine.1 in
      let few = taken_length n rs in
      record {
        fine = fine.0;
        reads = (and_parts (reads_assigned s.assigned index.expression) _ wide.1).0;
        some = few.1 some is.some;
        reach = subst (λ (k : ℕ). length (take n rs) ≤ 2 ^ k) (sym same) few.0;
        elements = subst (λ (ty : ValueType). IsTrue (list_all (λ r. is_reference scope r && same_type (type_of r) ty) (take n rs)))
            (sym (first_taken n rs some)) (take_elements n (element_type rs) rs is.all alike);
      }

  picked_is : (line : ℕ) (inside : Bool) (index : Typed) (rs : List Reference) → IsTyped s scope index → Some_of rs
      → Yields (IsThing s scope) (picked line inside index rs)
  unfolding picked
  picked_is line inside index rs typed is =
      test (IsThing s scope) (are_alike rs) _ _
      (λ alike. fork inside (some_nodes (IsThing s scope) (length (in_reach index.ty.width rs)) _
      (done (IsThing s scope) (things.pick index.expression (in_reach index.ty.width rs)) (reached index rs typed is alike))))
      (failed (IsThing s scope) (WidthMismatch line))
    where
      fork : (b : Bool)
          → Yields (IsThing s scope) (nodes (length (in_reach index.ty.width rs)) >> pure (things.pick index.expression (in_reach index.ty.width rs)))
          → Yields (IsThing s scope) (if b then fail (NotAllowedHere line)
          else nodes (length (in_reach index.ty.width rs)) >> pure (things.pick index.expression (in_reach index.ty.width rs)))
      fork true made = failed (IsThing s scope) (NotAllowedHere line)
      fork false made = made

  -- `x[e]`, where e is Bits
  pub dynamic_is : (line : ℕ) (inside : Bool) (index : Typed) (t : Thing) → IsTyped s scope index → IsThing s scope t
      → Yields (IsThing s scope) (dynamic line inside index t)
  unfolding dynamic
  dynamic_is line inside index t typed is =
      test (IsThing s scope) (is_bits index.ty) _ _
      (λ _. bind Some_of (IsThing s scope) (lift (elements line t)) (λ rs. picked line inside index rs)
      (lifted Some_of (elements line t) (elements_are line t is)) (λ rs some. picked_is line inside index rs typed some))
      (failed (IsThing s scope) (WidthMismatch line))
