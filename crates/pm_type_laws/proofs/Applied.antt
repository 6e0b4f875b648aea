-- Operators, functions and calls on values.
use Rattle.std.proofs.Common.{◌≡◌, ◌∙◌, ◌+◌, ◌&&◌, ◌≤◌, ◌<◌, ◌++◌, ℕ, ℤ, suc, true, List, [], ◌∷◌, refl, sym, ap, subst, map, length, arith, leb-true}
use Rattle.std.specs.Prelude.{IsTrue, nat_lt, nat_le, pos, negsuc, Option, Some, None, Ok}
use Rattle.std.specs.List.{list_all}
use Rattle.std.proofs.lemmas.Bool.{and_parts, le-leb, eq-eqb}
use Rattle.pm_bits.specs.declared.operator.Fold.{Fold}
use Rattle.pm_bits.specs.declared.operator.Op.{Op}
use Rattle.pm_bits.specs.declared.operator.Op.TheVariants as made_op
use Rattle.pm_design.specs.declared.body.Ex.{Ex}
use Rattle.pm_design.specs.declared.body.Ex.TheVariants as ex
use Rattle.pm_design.specs.Typing.{result_width, typing}
use Rattle.pm_design.proofs.Typings.{typing_bin, typing_cat, typing_cond, typing_fold, typing_not, typing_sext, typing_trunc, typing_zext}
use Rattle.pm_design.proofs.Progressing.{reads_bin, reads_cat, reads_cond, reads_fold, reads_not, reads_sext, reads_trunc, reads_zext}
use Rattle.pm_design.specs.Settings.{reads_assigned}
use Rattle.pm_design.specs.Widths.{total}
use Rattle.pm_syn.specs.declared.expression.BinaryOp.{BinaryOp}
use Rattle.pm_syn.specs.declared.expression.UnaryOp.{UnaryOp}
use Rattle.pm_syn.specs.declared.expression.UnaryOp.TheVariants as unary
use Rattle.pm_values.specs.declared.reference.ValueType.{ValueType}
use Rattle.pm_values.specs.Integers.{operated, applied}
use Rattle.pm_elab.specs.Values.{bits_of}
use Rattle.pm_typing.specs.declared.fault.TypeFault.TheVariants.{WidthMismatch, NotAllowedHere}
use Rattle.pm_typing.specs.declared.operand.Operand.{Operand}
use Rattle.pm_typing.specs.declared.operand.Operand.TheVariants as operands
use Rattle.pm_typing.specs.declared.thing.Resizing.{Resizing}
use Rattle.pm_typing.specs.declared.thing.Resizing.TheVariants as resizing
use Rattle.pm_typing.specs.Counted.{◌>>=◌, ◌>>◌, pure, lift, node}
use Rattle.pm_typing.specs.Functions.{Joined, with_part, part_added, parts_from, no_parts, concatenated, concat, fits_resizing, fits_type, resized, resizing_to, resize, folded, reduce}
use Rattle.pm_typing.specs.Operands.{Typed, is_bits, bits_in, fitted}
use Rattle.pm_typing.specs.Operators.{integer_or, op_of, suits, result_type, combined, joined_at, joined, operation_if, operation, complement_suits, complement, application, selected, selection, either}
use Rattle.pm_typing.specs.Sites.{Scope}
use Rattle.pm_typing.specs.Things as things
use Rattle.pm_typing.specs.Things.{Thing}
use Rattle.pm_type_laws.specs.Views.{Each, View, is_typed}
use Rattle.pm_type_laws.specs.Good.{is_type}
use Rattle.pm_type_laws.proofs.Yields.{On, Yields, and_on, bind, failed, lifted, test, a_node}
use Rattle.pm_type_laws.proofs.Things.{IsThing, IsOperand, IsTyped}
use Rattle.pm_type_laws.proofs.Values.{both}
use Rattle.pm_type_laws.proofs.Cuts.{bits_type, type_width}
use Rattle.pm_type_laws.proofs.Valued.{Fits, bits_is, fitted_is, has_type_by, typed_parts}

module _ (s : View) (scope : Scope) where
  pub value_thing : (e : Ex) (ty : ValueType) → IsTrue (is_typed s scope e ty)
      → Yields (IsThing s scope) (node >> pure (things.value e ty))
  value_thing e ty is = a_node (IsThing s scope) (things.value e ty) is

  pub one_bit : IsTrue (is_type scope.design.design.shapes (bits_of 1))
  one_bit = bits_type scope.design.design.shapes 1 (omega arith) (omega arith)

  integer_is : (line : ℕ) (n : Option ℤ) → On (IsThing s scope) (integer_or line n)
  integer_is line (Some n) = tt
  integer_is line None = tt

  -- ---- operators between values

  result_is : (o : Op) (ty : ValueType) → IsTrue (is_type scope.design.design.shapes ty)
      → ((result_type o ty).width ≡ result_width o ty.width) × IsTrue (is_type scope.design.design.shapes (result_type o ty))
  unfolding result_type
  result_is made_op.Add ty is = (refl, is)
  result_is made_op.Sub ty is = (refl, is)
  result_is made_op.Mul ty is = (refl, is)
  result_is made_op.And ty is = (refl, is)
  result_is made_op.Or ty is = (refl, is)
  result_is made_op.Xor ty is = (refl, is)
  result_is made_op.Shl ty is = (refl, is)
  result_is made_op.Shr ty is = (refl, is)
  result_is made_op.Eq ty is = (refl, one_bit)
  result_is made_op.Ne ty is = (refl, one_bit)
  result_is made_op.Lt ty is = (refl, one_bit)
  result_is made_op.Le ty is = (refl, one_bit)
  result_is made_op.Gt ty is = (refl, one_bit)
  result_is made_op.Ge ty is = (refl, one_bit)

  bin_typed : (o : Op) (e f : Ex) (ty : ValueType) → Fits s scope ty e → Fits s scope ty f
      → IsTrue (is_typed s scope (ex.Bin o e f) (result_type o ty))
  bin_typed o e f ty left right =
      let a = typed_parts s scope e ty left in
      let b = typed_parts s scope f ty right in
      let result = result_is o ty a.typed in
      has_type_by s scope (ex.Bin o e f) (result_type o ty)
      (rw (typing_bin s.sight o e f)
      (both (typing s.sight e).fine _ a.fine (both (typing s.sight f).fine _ b.fine (eq-eqb _ _ (a.wide ∙ sym b.wide)))))
      (rw (typing_bin s.sight o e f) (ap (result_width o) a.wide ∙ sym result.0))
      (rw (reads_bin s.assigned o e f) (both (reads_assigned s.assigned e) _ a.reads b.reads)) result.1

  combined_is : (o : Op) (e f : Ex) (ty : ValueType) → Fits s scope ty e → Fits s scope ty f
      → Yields (IsThing s scope) (combined o e f ty)
  unfolding combined
  combined_is o e f ty left right = value_thing (ex.Bin o e f) (result_type o ty) (bin_typed o e f ty left right)

  joined_is : (line : ℕ) (b : BinaryOp) (o : Op) (ty : ValueType) (x y : Operand) → IsOperand s scope x
      → IsOperand s scope y
      → Yields (IsThing s scope) (joined line b o ty x y)
  unfolding joined
  joined_is line b o ty x y left right =
      test (IsThing s scope) (suits b ty) (joined_at line o ty x y) _
      (λ _. bind (Fits s scope ty) (IsThing s scope) (fitted line ty x) (λ e. fitted line ty y >>= (λ f. combined o e f ty)) (fitted_is s scope line ty x left)
      (λ e first. bind (Fits s scope ty) (IsThing s scope) (fitted line ty y) (λ f. combined o e f ty) (fitted_is s scope line ty y right)
      (λ f second. combined_is o e f ty first second)))
      (failed (IsThing s scope) (WidthMismatch line))

  operation_by : (line : ℕ) (b : BinaryOp) (o : Option Op) (ty : ValueType) (x y : Operand) → IsOperand s scope x
      → IsOperand s scope y
      → Yields (IsThing s scope) (operation_if line b o ty x y)
  operation_by line b (Some o) ty x y left right = joined_is line b o ty x y left right
  operation_by line b None ty x y left right = failed (IsThing s scope) (NotAllowedHere line)

  -- an operation on two values
  pub operation_is : (line : ℕ) (b : BinaryOp) (x y : Operand) → IsOperand s scope x → IsOperand s scope y
      → Yields (IsThing s scope) (operation line b x y)
  unfolding operation
  operation_is line b (operands.Int m) (operands.Int n) left right = lifted (IsThing s scope) _ (integer_is line (operated b m n))
  operation_is line b (operands.Int m) (operands.Bits f ty) left right = operation_by line b (op_of b) ty (operands.Int m) (operands.Bits f ty) left right
  operation_is line b (operands.Bits e ty) y left right = operation_by line b (op_of b) ty (operands.Bits e ty) y left right

  -- ---- operators before a value

  complement_is : (line : ℕ) (u : UnaryOp) (e : Ex) (ty : ValueType) → IsTrue (is_typed s scope e ty)
      → Yields (IsThing s scope) (complement line u e ty)
  unfolding complement
  complement_is line u e ty is =
      let parts = typed_parts s scope e ty is in
      test (IsThing s scope) (complement_suits u ty) _ _
      (λ _. value_thing (ex.Not e) ty (has_type_by s scope (ex.Not e) ty (rw (typing_not s.sight e) parts.fine) (rw (typing_not s.sight e) parts.wide)
      (rw (reads_not s.assigned e) parts.reads) parts.typed))
      (failed (IsThing s scope) (WidthMismatch line))

  -- an operator before a value
  pub application_is : (line : ℕ) (u : UnaryOp) (x : Operand) → IsOperand s scope x
      → Yields (IsThing s scope) (application line u x)
  unfolding application
  application_is line u (operands.Int n) is = lifted (IsThing s scope) _ (integer_is line (applied u n))
  application_is line unary.Minus (operands.Bits e ty) is = failed (IsThing s scope) (NotAllowedHere line)
  application_is line unary.Plus (operands.Bits e ty) is = failed (IsThing s scope) (NotAllowedHere line)
  application_is line unary.Invert (operands.Bits e ty) is = complement_is line unary.Invert e ty is
  application_is line unary.Not (operands.Bits e ty) is = complement_is line unary.Not e ty is

  -- ---- conditional expressions

  cond_typed : (c e f : Ex) (ty : ValueType) → Fits s scope (bits_of 1) c → Fits s scope ty e → Fits s scope ty f
      → IsTrue (is_typed s scope (ex.Cond c e f) ty)
  cond_typed c e f ty tested left right =
      let t = typed_parts s scope c (bits_of 1) tested in
      let a = typed_parts s scope e ty left in
      let b = typed_parts s scope f ty right in
      has_type_by s scope (ex.Cond c e f) ty
      (rw (typing_cond s.sight c e f)
      (both (typing s.sight c).fine _ t.fine (both (typing s.sight e).fine _ a.fine (both (typing s.sight f).fine _ b.fine (eq-eqb _ _ (a.wide ∙ sym b.wide))))))
      (rw (typing_cond s.sight c e f) a.wide)
      (rw (reads_cond s.assigned c e f) (both (reads_assigned s.assigned c) _ t.reads (both (reads_assigned s.assigned e) _ a.reads b.reads))) a.typed

  selection_is : (line : ℕ) (c : Ex) (ty : ValueType) (x y : Operand) → Fits s scope (bits_of 1) c
      → IsOperand s scope x → IsOperand s scope y
      → Yields (IsThing s scope) (selection line c ty x y)
  unfolding selection selected
  selection_is line c ty x y tested left right =
      bind (Fits s scope ty) (IsThing s scope) (fitted line ty x) (λ e. fitted line ty y >>= (λ f. selected c e f ty)) (fitted_is s scope line ty x left)
      (λ e first. bind (Fits s scope ty) (IsThing s scope) (fitted line ty y) (λ f. selected c e f ty) (fitted_is s scope line ty y right)
      (λ f second. value_thing (ex.Cond c e f) ty (cond_typed c e f ty tested first second)))

  -- one of two values
  pub either_is : (line : ℕ) (c : Ex) (x y : Operand) → Fits s scope (bits_of 1) c → IsOperand s scope x
      → IsOperand s scope y
      → Yields (IsThing s scope) (either line c x y)
  unfolding either
  either_is line c (operands.Int m) (operands.Int n) tested left right = failed (IsThing s scope) (WidthMismatch line)
  either_is line c (operands.Int m) (operands.Bits f ty) tested left right = selection_is line c ty (operands.Int m) (operands.Bits f ty) tested left right
  either_is line c (operands.Bits e ty) y tested left right = selection_is line c ty (operands.Bits e ty) y tested left right

  -- ---- concatenations

  -- so many sound expressions of a width in all
  pub record AreParts (es : List Ex) (count width : ℕ) : Type 0 where
    pub fine : IsTrue (list_all (λ t. t.fine) (map (typing s.sight) es))
    pub wide : total (map (λ t. t.width) (map (typing s.sight) es)) ≡ width
    pub reads : IsTrue (list_all (λ b. b) (map (reads_assigned s.assigned) es))
    pub long : length es ≡ count

  pub no_expressions : AreParts [] 0 0
  no_expressions = record { fine = refl; wide = refl; reads = refl; long = refl }

  fine_behind : (es : List Ex) (e : Ex) → IsTrue (list_all (λ t. t.fine) (map (typing s.sight) es))
      → IsTrue (typing s.sight e).fine
      → IsTrue (list_all (λ t. t.fine) (map (typing s.sight) (es ++ e ∷ [])))
  fine_behind [] e all fine = both (typing s.sight e).fine true fine refl
  fine_behind (x ∷ es) e all fine =
      let parts = and_parts (typing s.sight x).fine (list_all (λ t. t.fine) (map (typing s.sight) es)) all in
      both (typing s.sight x).fine _ parts.0 (fine_behind es e parts.1 fine)

  reads_behind : (es : List Ex) (e : Ex) → IsTrue (list_all (λ b. b) (map (reads_assigned s.assigned) es))
      → IsTrue (reads_assigned s.assigned e)
      → IsTrue (list_all (λ b. b) (map (reads_assigned s.assigned) (es ++ e ∷ [])))
  reads_behind [] e all reads = both (reads_assigned s.assigned e) true reads refl
  reads_behind (x ∷ es) e all reads =
      let parts = and_parts (reads_assigned s.assigned x) _ all in
      both (reads_assigned s.assigned x) _ parts.0 (reads_behind es e parts.1 reads)

  wide_behind : (es : List Ex) (e : Ex)
      → total (map (λ t. t.width) (map (typing s.sight) (es ++ e ∷ []))) ≡ total (map (λ t. t.width) (map (typing s.sight) es)) + (typing s.sight e).width
  wide_behind [] e = omega arith
  wide_behind (x ∷ es) e = let more = wide_behind es e in omega (arith, more)

  length_behind : (es : List Ex) (e : Ex) → length (es ++ e ∷ []) ≡ length es + 1
  length_behind [] e = refl
  length_behind (x ∷ es) e = let more = length_behind es e in omega (arith, more)

  -- one expression more
  pub part_behind : (es : List Ex) (count width : ℕ) (e : Ex) (ty : ValueType) → AreParts es count width
      → IsTrue (is_typed s scope e ty)
      → AreParts (es ++ e ∷ []) (count + 1) (width + ty.width)
  part_behind es count width e ty are is =
      let parts = typed_parts s scope e ty is in
      let wide = wide_behind es e in
      let long = length_behind es e in
      record {
        fine = fine_behind es e are.fine parts.fine;
        wide = omega (arith, wide, are.wide, parts.wide);
        reads = reads_behind es e are.reads parts.reads;
        long = omega (arith, long, are.long);
      }

  -- a concatenation of at least one of them and at most 128 bits
  pub cat_typed : (es : List Ex) (count : ℕ) (ty : ValueType) → AreParts es count ty.width → 0 < count
      → IsTrue (is_type scope.design.design.shapes ty)
      → IsTrue (is_typed s scope (ex.Cat es) ty)
  cat_typed es count ty are some is =
      let wide = type_width scope.design.design.shapes ty is in
      let long : length (map (typing s.sight) es) ≡ length es = map_length es in
      has_type_by s scope (ex.Cat es) ty
      (rw (typing_cat s.sight es)
      (both (list_all (λ t. t.fine) (map (typing s.sight) es)) _ are.fine
      (both (nat_lt 0 (length (map (typing s.sight) es))) _ (le-leb 1 (length (map (typing s.sight) es)) (omega (arith, long, are.long, some)))
      (le-leb _ _ (omega (arith, are.wide, wide.1))))))
      (rw (typing_cat s.sight es) are.wide) (rw (reads_cat s.assigned es) are.reads) is
    where
      map_length : (es : List Ex) → length (map (typing s.sight) es) ≡ length es
      map_length [] = refl
      map_length (e ∷ es) = ap suc (map_length es)

  -- ---- `concat`

  -- so many expressions, which aren't empty
  record IsJoined (count : ℕ) (j : Joined) : Type 0 where
    all : AreParts j.parts count j.width
    least : count ≤ j.width

  part_added_is : (line count : ℕ) (j : Joined) (x : Operand) → IsJoined count j → IsOperand s scope x
      → On (IsJoined (count + 1)) (part_added line j x)
  part_added_is line count j x are is =
      and_on (IsTyped s scope) (IsJoined (count + 1)) (bits_in line x) (λ e. Ok (with_part j e)) (bits_is s scope line x is)
      (λ e typed.
      let wide = type_width scope.design.design.shapes e.ty (typed_parts s scope e.expression e.ty typed).typed in
      record { all = part_behind j.parts count j.width e.expression e.ty are.all typed; least = omega (arith, are.least, wide.0) })

  parts_are : (line count : ℕ) (j : Joined) (xs : List Operand) → IsJoined count j → Each (IsOperand s scope) xs
      → On (IsJoined (count + length xs)) (parts_from line j xs)
  unfolding parts_from
  parts_are line count j [] are each = subst (λ (n : ℕ). IsJoined n j) (omega arith) are
  parts_are line count j (x ∷ xs) are each =
      and_on (IsJoined (count + 1)) (IsJoined (count + suc (length xs))) (part_added line j x) (λ k. parts_from line k xs)
      (part_added_is line count j x are each.0)
      (λ k more. subst (λ (n : ℕ). On (IsJoined n) (parts_from line k xs)) (omega arith) (parts_are line (count + 1) k xs more each.1))

  concatenated_is : (line count : ℕ) (j : Joined) → IsJoined count j → 0 < count
      → Yields (IsThing s scope) (concatenated line j)
  unfolding concatenated
  concatenated_is line count j are some =
      test (IsThing s scope) (j.plain && nat_le j.width 128) _ _
      (λ fits.
      let few : j.width ≤ 128 = leb-true _ _ (and_parts j.plain (nat_le j.width 128) fits).1 in
      value_thing (ex.Cat j.parts) (bits_of j.width)
      (cat_typed j.parts count (bits_of j.width) are.all some (bits_type scope.design.design.shapes j.width (omega (arith, are.least, some)) few)))
      (failed (IsThing s scope) (WidthMismatch line))

  no_parts_are : IsJoined 0 no_parts
  no_parts_are = record { all = no_expressions; least = omega arith }

  pub concat_is : (line : ℕ) (xs : List Operand) → Each (IsOperand s scope) xs
      → Yields (IsThing s scope) (concat line xs)
  unfolding concat
  concat_is line [] each = failed (IsThing s scope) (NotAllowedHere line)
  concat_is line (x ∷ xs) each =
      bind (IsJoined (0 + length (x ∷ xs))) (IsThing s scope) (lift (parts_from line no_parts (x ∷ xs))) (λ j. concatenated line j)
      (lifted (IsJoined (0 + length (x ∷ xs))) _ (parts_are line 0 no_parts (x ∷ xs) no_parts_are each))
      (λ j are. concatenated_is line (0 + length (x ∷ xs)) j are (omega arith))

  -- ---- widths

  resized_typed : (how : Resizing) (e : Ex) (ty : ValueType) (n : ℕ) → IsTrue (is_typed s scope e ty)
      → IsTrue (fits_resizing how ty.width n)
      → IsTrue (is_typed s scope (resized how e n) (bits_of n))
  resized_typed resizing.Zeros e ty n is fits =
      let parts = typed_parts s scope e ty is in
      let bounds = and_parts (nat_le ty.width n) (nat_le n 128) fits in
      let wide = type_width scope.design.design.shapes ty parts.typed in
      let above : ty.width ≤ n = leb-true _ _ bounds.0 in
      has_type_by s scope (ex.Zext e n) (bits_of n)
      (rw (typing_zext s.sight e n) (both (typing s.sight e).fine _ parts.fine (both (nat_le (typing s.sight e).width n) _ (le-leb _ _ (omega (arith, above, parts.wide))) bounds.1)))
      (rw (typing_zext s.sight e n) refl) (rw (reads_zext s.assigned e n) parts.reads) (bits_type scope.design.design.shapes n (omega (arith, above, wide.0)) (leb-true _ _ bounds.1))
  resized_typed resizing.Signs e ty n is fits =
      let parts = typed_parts s scope e ty is in
      let bounds = and_parts (nat_le ty.width n) (nat_le n 128) fits in
      let wide = type_width scope.design.design.shapes ty parts.typed in
      let above : ty.width ≤ n = leb-true _ _ bounds.0 in
      has_type_by s scope (ex.Sext e n) (bits_of n)
      (rw (typing_sext s.sight e n) (both (typing s.sight e).fine _ parts.fine (both (nat_le (typing s.sight e).width n) _ (le-leb _ _ (omega (arith, above, parts.wide))) bounds.1)))
      (rw (typing_sext s.sight e n) refl) (rw (reads_sext s.assigned e n) parts.reads) (bits_type scope.design.design.shapes n (omega (arith, above, wide.0)) (leb-true _ _ bounds.1))
  resized_typed resizing.Cut e ty n is fits =
      let parts = typed_parts s scope e ty is in
      let bounds = and_parts (nat_le 1 n) (nat_le n ty.width) fits in
      let wide = type_width scope.design.design.shapes ty parts.typed in
      let below : n ≤ ty.width = leb-true _ _ bounds.1 in
      has_type_by s scope (ex.Trunc e n) (bits_of n)
      (rw (typing_trunc s.sight e n) (both (typing s.sight e).fine _ parts.fine (both (nat_lt 0 n) _ bounds.0 (le-leb _ _ (omega (arith, below, parts.wide))))))
      (rw (typing_trunc s.sight e n) refl) (rw (reads_trunc s.assigned e n) parts.reads) (bits_type scope.design.design.shapes n (leb-true _ _ bounds.0) (omega (arith, below, wide.1)))

  resizing_is : (line : ℕ) (how : Resizing) (e : Typed) (n : Operand) → IsTyped s scope e
      → Yields (IsThing s scope) (resizing_to line how e n)
  unfolding resizing_to
  resizing_is line how e (operands.Int (pos n)) is =
      test (IsThing s scope) (fits_type how e.ty n) _ _
      (λ fits. value_thing (resized how e.expression n) (bits_of n)
      (resized_typed how e.expression e.ty n is (and_parts (is_bits e.ty) (fits_resizing how e.ty.width n) fits).1))
      (failed (IsThing s scope) (WidthMismatch line))
  resizing_is line how e (operands.Int (negsuc n)) is = failed (IsThing s scope) (WidthMismatch line)
  resizing_is line how e (operands.Bits f ty) is =
      test (IsThing s scope) (is_bits e.ty) _ _ (λ _. failed (IsThing s scope) (NotAllowedHere line)) (failed (IsThing s scope) (WidthMismatch line))

  pub resize_is : (line : ℕ) (how : Resizing) (xs : List Operand) → Each (IsOperand s scope) xs
      → Yields (IsThing s scope) (resize line how xs)
  unfolding resize
  resize_is line how [] each = failed (IsThing s scope) (NotAllowedHere line)
  resize_is line how (x ∷ []) each = failed (IsThing s scope) (NotAllowedHere line)
  resize_is line how (x ∷ n ∷ []) each =
      bind (IsTyped s scope) (IsThing s scope) (lift (bits_in line x)) (λ e. resizing_to line how e n)
      (lifted (IsTyped s scope) (bits_in line x) (bits_is s scope line x each.0)) (λ e is. resizing_is line how e n is)
  resize_is line how (x ∷ n ∷ y ∷ ys) each = failed (IsThing s scope) (NotAllowedHere line)

  -- ---- reductions

  folded_is : (line : ℕ) (f : Fold) (e : Typed) → IsTyped s scope e → Yields (IsThing s scope) (folded line f e)
  unfolding folded
  folded_is line f e is =
      test (IsThing s scope) (is_bits e.ty) _ _
      (λ _. value_thing (ex.Fold f e.expression) (bits_of 1)
      (has_type_by s scope (ex.Fold f e.expression) (bits_of 1) (rw (typing_fold s.sight f e.expression) (typed_parts s scope e.expression e.ty is).fine)
      (rw (typing_fold s.sight f e.expression) refl) (rw (reads_fold s.assigned f e.expression) (typed_parts s scope e.expression e.ty is).reads) one_bit))
      (failed (IsThing s scope) (WidthMismatch line))

  pub reduce_is : (line : ℕ) (f : Fold) (xs : List Operand) → Each (IsOperand s scope) xs
      → Yields (IsThing s scope) (reduce line f xs)
  unfolding reduce
  reduce_is line f [] each = failed (IsThing s scope) (NotAllowedHere line)
  reduce_is line f (x ∷ []) each =
      bind (IsTyped s scope) (IsThing s scope) (lift (bits_in line x)) (λ e. folded line f e)
      (lifted (IsTyped s scope) (bits_in line x) (bits_is s scope line x each.0)) (λ e is. folded_is line f e is)
  reduce_is line f (x ∷ y ∷ ys) each = failed (IsThing s scope) (NotAllowedHere line)
