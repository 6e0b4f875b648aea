-- Functions of integers and lists, constants, bitstructs and `rdy`.
use Rattle.std.proofs.Common.{◌≡◌, ◌∙◌, ◌+◌, ◌==◌, ◌&&◌, ◌≤◌, ◌<◌, ◌^◌, ◌++◌, ℕ, ℤ, zero, suc, Bool, true, false, List, [], ◌∷◌, refl, sym, ap, subst, map, length, arith, ltb-true, eqb-true}
use Rattle.std.specs.Prelude.{IsTrue, if◌then◌else◌, slice_get, nat_lt, pos, negsuc, Option, Some, None, Ok, Err}
use Rattle.std.specs.List.{list_all, range_with_len}
use Rattle.std.proofs.lemmas.Bool.{and_parts, false≢true}
use Rattle.pm_bits.specs.Word.{Word}
use Rattle.pm_design.specs.declared.body.Ex.{Ex}
use Rattle.pm_design.specs.declared.body.Ex.TheVariants as ex
use Rattle.pm_design.specs.declared.connection.Callee.{Callee}
use Rattle.pm_design.specs.declared.signal.Field.{Field}
use Rattle.pm_design.specs.declared.signal.Shape.{Shape}
use Rattle.pm_design.proofs.Typings.{typing_count, typing_ready}
use Rattle.pm_design.proofs.Progressing.{reads_count, reads_ready}
use Rattle.pm_design.specs.Widths.{is_width, log_of, total}
use Rattle.pm_values.specs.declared.reference.ValueType.{ValueType}
use Rattle.pm_values.specs.Integers.{ceiling_log}
use Rattle.pm_elab.specs.Values.{bits_of, constant_of, literal_of}
use Rattle.pm_typing.specs.declared.fault.TypeFault.TheVariants.{WidthMismatch, ConstRange, NotAllowedHere}
use Rattle.pm_typing.specs.declared.operand.Operand.{Operand}
use Rattle.pm_typing.specs.declared.thing.BodyFunction.{BodyFunction}
use Rattle.pm_typing.specs.declared.thing.BodyFunction.TheVariants as functions
use Rattle.pm_typing.specs.declared.thing.Resizing.TheVariants as resizing
use Rattle.pm_typing.specs.Calls.{literal_if, literal_constant, constant_thing, constant_call, fitted_from, field_type, types_of_shape, field_types, packed, struct_value, ready_call}
use Rattle.pm_typing.specs.Counted.{Checked, ◌>>◌, pure, lift, node}
use Rattle.pm_typing.specs.Functions.{log_if, only_integer, log_call, type_at, bits_type_call, count_width, count_of, length_thing, length_of, called_at, called}
use Rattle.pm_typing.specs.Names.{most_items}
use Rattle.pm_typing.specs.Operands.{constant, constant_if, fitted}
use Rattle.pm_typing.specs.Sites.{Scope}
use Rattle.pm_typing.specs.Things as things
use Rattle.pm_typing.specs.Things.{Thing}
use Rattle.pm_type_laws.specs.Views.{Each, Sees, View, is_typed}
use Rattle.pm_type_laws.specs.Good.{fills, has_shape, is_constant, is_packed, is_state, is_type}
use Rattle.pm_type_laws.proofs.Yields.{On, Where, Yields, and_on, test_on, bind, done, failed, lifted, test}
use Rattle.pm_type_laws.proofs.Things.{IsThing, IsOperand}
use Rattle.pm_type_laws.proofs.Values.{both, find_in}
use Rattle.pm_type_laws.proofs.Valued.{Fits, HasState, constant_fits, constant_typed, deque_has, fitted_is, has_type_by, state_held, word_fits}
use Rattle.pm_type_laws.proofs.Applied.{AreParts, cat_typed, concat_is, no_expressions, one_bit, part_behind, reduce_is, resize_is, value_thing}

-- each number of a range passes
in_range : (test : ℕ → Bool) (a n k : ℕ) → IsTrue (list_all test (range_with_len a n)) → a ≤ k → k < a + n
    → IsTrue (test k)
in_range test a zero k all above below = absurd (omega (arith, above, below))
in_range test a (suc n) k all above below =
    let parts = and_parts (test a) (list_all test (range_with_len (a + 1) n)) all in
    here_or (a == k) refl parts.0 (λ later. in_range test (a + 1) n k parts.1 later (omega (arith, below)))
  where
    here_or : (b : Bool) → (a == k) ≡ b → IsTrue (test a) → (a + 1 ≤ k → IsTrue (test k)) → IsTrue (test k)
    here_or true same here later = subst (λ (m : ℕ). IsTrue (test m)) (eqb-true a k same) here
    here_or false other here later = later (grind (arith, above, other))

-- a count of 1 to 64 items has a width
count_is_width : (most : ℕ) → 0 < most → most ≤ 64 → IsTrue (is_width (count_width most))
unfolding count_width
count_is_width most some few = in_range (λ m. is_width (log_of (m + 1))) 1 64 most refl some (omega (arith, few))

module _ (s : View) (scope : Scope) where
  -- ---- functions of integers and lists

  log_is : (line : ℕ) (k : Option ℕ) → On (IsThing s scope) (log_if line k)
  log_is line (Some k) = tt
  log_is line None = tt

  log_call_is : (line : ℕ) (xs : List Operand) → On (IsThing s scope) (log_call line xs)
  unfolding log_call
  log_call_is line xs =
      and_on (λ _. Unit {0}) (IsThing s scope) (only_integer line xs) (λ n. log_if line (ceiling_log n)) (any (only_integer line xs))
      (λ n _. log_is line (ceiling_log n))
    where
      any : (r : Checked ℤ) → On (λ _. Unit {0}) r
      any (Ok n) = tt
      any (Err e) = tt

  type_is : (line : ℕ) (n : ℤ) → On (IsThing s scope) (type_at line n)
  type_is line (pos n) =
      test_on (IsThing s scope) (is_width n) (Ok (things.of_type (bits_of n))) _ (λ wide. both (is_width n) true wide refl) tt
  type_is line (negsuc n) = tt

  type_call_is : (line : ℕ) (xs : List Operand) → On (IsThing s scope) (bits_type_call line xs)
  unfolding bits_type_call
  type_call_is line xs =
      and_on (λ _. Unit {0}) (IsThing s scope) (only_integer line xs) (λ n. type_at line n) (any (only_integer line xs)) (λ n _. type_is line n)
    where
      any : (r : Checked ℤ) → On (λ _. Unit {0}) r
      any (Ok n) = tt
      any (Err e) = tt

  count_typed : (k : ℕ) → HasState s scope k → 0 < most_items scope k
      → IsTrue (is_typed s scope (ex.Count k) (bits_of (count_width (most_items scope k))))
  unfolding count_width
  count_typed k is some =
      has_type_by s scope (ex.Count k) (bits_of (count_width (most_items scope k)))
      (rw (typing_count s.sight k) (deque_has s scope k 0 is some))
      (rw (typing_count s.sight k) (ap (λ (m : ℕ). log_of (m + 1)) is.most)) (rw (reads_count s.assigned k) refl)
      (both (is_width (count_width (most_items scope k))) true (count_is_width (most_items scope k) some is.few) refl)

  count_is : Sees s scope → (line k : ℕ) → IsTrue (is_state scope k) → Yields (IsThing s scope) (count_of scope line k)
  unfolding count_of
  count_is sees line k is =
      test (IsThing s scope) (nat_lt 0 (most_items scope k)) _ _
      (λ some. value_thing s scope (ex.Count k) (bits_of (count_width (most_items scope k))) (count_typed k (state_held s scope sees k is) (ltb-true _ _ some)))
      (failed (IsThing s scope) (NotAllowedHere line))

  -- the length of a list or of a deque
  pub length_is : Sees s scope → (line : ℕ) (t : Thing) → IsThing s scope t
      → Yields (IsThing s scope) (length_of scope line t)
  unfolding length_of
  length_is sees line (things.items whose vs) is = lifted (IsThing s scope) (length_thing (length vs)) tt
  length_is sees line (things.state k) is = count_is sees line k is
  length_is sees line _ is = failed (IsThing s scope) (NotAllowedHere line)

  call_by : (f : BodyFunction) (line : ℕ) (xs : List Operand) → Each (IsOperand s scope) xs
      → Yields (IsThing s scope) (called_at f line xs)
  call_by functions.Concat line xs each = concat_is s scope line xs each
  call_by functions.Zext line xs each = resize_is s scope line resizing.Zeros xs each
  call_by functions.Sext line xs each = resize_is s scope line resizing.Signs xs each
  call_by functions.Trunc line xs each = resize_is s scope line resizing.Cut xs each
  call_by (functions.Reduce f) line xs each = reduce_is s scope line f xs each
  call_by functions.CeilingLog line xs each = lifted (IsThing s scope) (log_call line xs) (log_call_is line xs)
  call_by functions.Length line xs each = failed (IsThing s scope) (NotAllowedHere line)
  call_by functions.MakeBits line xs each = lifted (IsThing s scope) (bits_type_call line xs) (type_call_is line xs)

  -- a function on arguments
  pub called_is : (f : BodyFunction) (line : ℕ) (named : Bool) (xs : List Operand) → Each (IsOperand s scope) xs
      → Yields (IsThing s scope) (called f line named xs)
  unfolding called
  called_is f line true xs each = failed (IsThing s scope) (NotAllowedHere line)
  called_is f line false xs each = call_by f line xs each

  -- ---- constants

  literal_by : (line width : ℕ) (w : Option Word) → Where (λ (w : Word). (w.width ≡ width) × IsTrue (is_constant w)) w
      → Yields (IsThing s scope) (literal_if line width w)
  literal_by line width None is = failed (IsThing s scope) (ConstRange line)
  literal_by line width (Some w) is =
      value_thing s scope (ex.Const w) (bits_of width) (subst (λ (n : ℕ). IsTrue (is_typed s scope (ex.Const w) (bits_of n))) is.0 (constant_typed s scope w is.1))

  -- the constant that a literal is
  pub literal_constant_is : (line width n : ℕ) → Yields (IsThing s scope) (literal_constant line width n)
  unfolding literal_constant literal_of
  literal_constant_is line width n = literal_by line width _ (by (is_width width && nat_lt n (2 ^ width)) refl)
    where
      by : (b : Bool) → (is_width width && nat_lt n (2 ^ width)) ≡ b
          → Where (λ (w : Word). (w.width ≡ width) × IsTrue (is_constant w)) (if b then Some (record { width = width; value = n }) else None)
      by true is = (refl, is)
      by false is = tt

  constant_is : (line width : ℕ) (n : ℤ) → Yields (IsThing s scope) (constant_thing line width n)
  unfolding constant_thing constant
  constant_is line width n =
      bind (Fits s scope (bits_of width)) (IsThing s scope) (constant_if line (constant_of width n)) (λ e. pure (things.value e (bits_of width)))
      (constant_fits s scope line (bits_of width) (constant_of width n) refl (word_fits s scope width n))
      (λ e is. done (IsThing s scope) (things.value e (bits_of width)) is)

  -- the constant of a width that the one argument is
  pub constant_call_is : (line width : ℕ) (named : Bool) (xs : List Operand)
      → Yields (IsThing s scope) (constant_call line width named xs)
  unfolding constant_call
  constant_call_is line width true xs = failed (IsThing s scope) (NotAllowedHere line)
  constant_call_is line width false xs =
      bind (λ _. Unit {0}) (IsThing s scope) (lift (only_integer line xs)) (λ n. constant_thing line width n)
      (lifted (λ _. Unit {0}) (only_integer line xs) (any (only_integer line xs))) (λ n _. constant_is line width n)
    where
      any : (r : Checked ℤ) → On (λ _. Unit {0}) r
      any (Ok n) = tt
      any (Err e) = tt

  -- ---- bitstructs

  -- values that fit so many types
  pub fitted_all : (line : ℕ) (es : List Ex) (count width : ℕ) (tys : List ValueType) (xs : List Operand)
      → AreParts s scope es count width
      → Each (IsOperand s scope) xs → length xs ≡ length tys
      → Yields (λ (es : List Ex). AreParts s scope es (count + length tys) (width + total (map (λ t. t.width) tys))) (fitted_from line es tys xs)
  unfolding fitted_from
  fitted_all line es count width [] [] are each same =
      done (λ (es : List Ex). AreParts s scope es (count + 0) (width + 0)) es
      (subst (λ (n : ℕ). AreParts s scope es (count + 0) n) (omega arith) (subst (λ (n : ℕ). AreParts s scope es n width) (omega arith) are))
  fitted_all line es count width [] (x ∷ xs) are each same = absurd (omega (arith, same))
  fitted_all line es count width (ty ∷ tys) [] are each same = absurd (omega (arith, same))
  fitted_all line es count width (ty ∷ tys) (x ∷ xs) are each same =
      bind (Fits s scope ty) (λ (es : List Ex). AreParts s scope es (count + suc (length tys)) (width + (ty.width + total (map (λ t. t.width) tys))))
      (fitted line ty x) (λ e. fitted_from line (es ++ e ∷ []) tys xs) (fitted_is s scope line ty x each.0)
      (λ e is.
      let more = fitted_all line (es ++ e ∷ []) (count + 1) (width + ty.width) tys xs (part_behind s scope es count width e ty are is) each.1 (omega (arith, same)) in
      let counts : count + 1 + length tys ≡ count + suc (length tys) = omega arith in
      let widths : width + ty.width + total (map (λ t. t.width) tys) ≡ width + (ty.width + total (map (λ t. t.width) tys)) = omega arith in
      subst (λ (n : ℕ). Yields (λ (es : List Ex). AreParts s scope es (count + suc (length tys)) n) (fitted_from line (es ++ e ∷ []) tys xs)) widths
      (subst (λ (n : ℕ). Yields (λ (es : List Ex). AreParts s scope es n (width + ty.width + total (map (λ t. t.width) tys))) (fitted_from line (es ++ e ∷ []) tys xs)) counts more))

  -- the types of fields fill the type
  record AreFields (ty : ValueType) (tys : List ValueType) : Type 0 where
    some : 0 < length tys
    all : total (map (λ t. t.width) tys) ≡ ty.width

  widths_of : (fs : List Field)
      → (length (map field_type fs) ≡ length fs) × (total (map (λ t. t.width) (map field_type fs)) ≡ total (map (λ f. f.width) fs))
  widths_of [] = (refl, refl)
  widths_of (f ∷ fs) = let more = widths_of fs in (ap suc more.0, ap (λ (n : ℕ). f.width + n) more.1)

  fields_are : Sees s scope → (ty : ValueType) (k : ℕ) → ty.shape ≡ Some k
      → IsTrue (is_type scope.design.design.shapes ty) → AreFields ty (field_types scope k)
  unfolding field_types
  fields_are sees ty k shape is =
      by (slice_get scope.design.design.shapes k) (find_in (is_packed scope.design.design.shapes) scope.design.design.shapes k sees.made.shapes)
      (subst (λ (x : Option ℕ). IsTrue (fills scope.design.design.shapes ty.width x)) shape (and_parts (is_width ty.width) _ is).1)
    where
      by : (x : Option Shape) → Where (λ (x : Shape). IsTrue (is_packed scope.design.design.shapes x)) x
          → IsTrue (has_shape scope.design.design.shapes ty.width x) → AreFields ty (types_of_shape x)
      by None packed has = absurd (false≢true has)
      by (Some x) packed has =
          let parts = and_parts (nat_lt 0 (length x.fields)) _ packed in
          let full = and_parts (total (map (λ f. f.width) x.fields) == x.width) _ parts.1 in
          let widths = widths_of x.fields in
          record {
            some = subst (λ (n : ℕ). 0 < n) (sym widths.0) (ltb-true _ _ parts.0);
            all = widths.1 ∙ (eqb-true _ _ full.0 ∙ eqb-true _ _ has);
          }

  packed_is : (line : ℕ) (ty : ValueType) (tys : List ValueType) (xs : List Operand)
      → IsTrue (is_type scope.design.design.shapes ty) → AreFields ty tys
      → Each (IsOperand s scope) xs → length xs ≡ length tys → Yields (IsThing s scope) (packed line ty tys xs)
  unfolding packed
  packed_is line ty tys xs is fields each same =
      bind (λ (es : List Ex). AreParts s scope es (0 + length tys) (0 + total (map (λ t. t.width) tys))) (IsThing s scope) (fitted_from line [] tys xs)
      (λ es. node >> pure (things.value (ex.Cat es) ty)) (fitted_all line [] 0 0 tys xs (no_expressions s scope) each same)
      (λ es are. value_thing s scope (ex.Cat es) ty
      (let all : 0 + total (map (λ t. t.width) tys) ≡ ty.width = omega (arith, fields.all) in
      cat_typed s scope es (0 + length tys) ty (subst (λ (n : ℕ). AreParts s scope es (0 + length tys) n) all are) (omega (arith, fields.some)) is))

  -- a bitstruct of values
  pub struct_is : Sees s scope → (line : ℕ) (ty : ValueType) (k : ℕ) (named : Bool) (xs : List Operand)
      → ty.shape ≡ Some k → IsTrue (is_type scope.design.design.shapes ty)
      → Each (IsOperand s scope) xs → Yields (IsThing s scope) (struct_value line ty (field_types scope k) named xs)
  unfolding struct_value
  struct_is sees line ty k true xs shape is each = failed (IsThing s scope) (NotAllowedHere line)
  struct_is sees line ty k false xs shape is each =
      test (IsThing s scope) (length xs == length (field_types scope k)) (packed line ty (field_types scope k) xs) _
      (λ same. packed_is line ty (field_types scope k) xs is (fields_are sees ty k shape is) each (eqb-true _ _ same)) (failed (IsThing s scope) (WidthMismatch line))

  -- ---- `rdy`

  -- whether a method is ready
  pub ready_is : (line : ℕ) (c : Callee) (bare : Bool) → IsTrue (s.sight.calls c).there
      → Yields (IsThing s scope) (ready_call line c bare)
  unfolding ready_call
  ready_is line c true is =
      value_thing s scope (ex.Ready c) (bits_of 1) (has_type_by s scope (ex.Ready c) (bits_of 1) (rw (typing_ready s.sight c) is) (rw (typing_ready s.sight c) refl) (rw (reads_ready s.assigned c) refl) (one_bit s scope))
  ready_is line c false is = failed (IsThing s scope) (NotAllowedHere line)
