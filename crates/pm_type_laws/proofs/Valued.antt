-- Things as values, and values that fit their places.
use Rattle.std.proofs.Common.{◌≡◌, ◌∙◌, ◌+◌, ◌==◌, ◌&&◌, ◌≤◌, ◌<◌, ◌^◌, ℕ, ℤ, zero, suc, Bool, true, false, List, [], ◌∷◌, refl, sym, ap, ap₂, subst, map, length, arith, leb-true, ltb-true, eqb-true}
use Rattle.std.specs.Prelude.{IsTrue, if◌then◌else◌, slice_get, slice_index_or, nat_eq, nat_lt, nat_le, pos, negsuc, Option, Some, None, is_some}
use Rattle.std.specs.List.{list_all}
use Rattle.std.specs.Option.{option_eq}
use Rattle.std.proofs.lemmas.Bool.{and_parts, le-leb, eq-eqb, false≢true}
use Rattle.std.proofs.lemmas.Nat.{pow_pos}
use Rattle.pm_bits.specs.Word.{Word, word_of_int}
use Rattle.pm_bits.proofs.OnWords.{int_is_word}
use Rattle.pm_bits.specs.declared.operator.Op.TheVariants as op
use Rattle.pm_design.specs.declared.body.Ex.{Ex}
use Rattle.pm_design.specs.declared.body.Ex.TheVariants as ex
use Rattle.pm_design.specs.declared.connection.Part.{Part}
use Rattle.pm_design.specs.declared.design.State.{State}
use Rattle.pm_design.specs.Lookups.{is_readable}
use Rattle.pm_design.specs.Typing.{Holding, has_width, is_deque, state_of, typing, element_width}
use Rattle.pm_design.proofs.Typings.{typing_const, typing_get, typing_temp, typing_pick, typing_number, typing_item, typing_last, typing_bin}
use Rattle.pm_design.proofs.Progressing.{reads_bin, reads_const, reads_get, reads_item, reads_last, reads_number, reads_pick, reads_temp}
use Rattle.pm_design.specs.Settings.{reads_assigned}
use Rattle.pm_design.specs.Widths.{is_width}
use Rattle.pm_values.specs.declared.reference.Reference.{Reference}
use Rattle.pm_values.specs.declared.reference.ValueType.{ValueType}
use Rattle.pm_elab.specs.Values.{bits_of, constant_of, fits_width}
use Rattle.pm_typing.specs.declared.fault.TypeFault.TheVariants.{WidthMismatch, ConstRange, NotAllowedHere, IndexRange}
use Rattle.pm_typing.specs.declared.operand.Operand.{Operand}
use Rattle.pm_typing.specs.declared.operand.Operand.TheVariants as operands
use Rattle.pm_typing.specs.Counted.{◌>>◌, pure, fail, lift, node}
use Rattle.pm_typing.specs.Names.{most_items, most_of}
use Rattle.pm_typing.specs.Operands.{is_bits, same_type, may_read, may_read_all, made, signal_read, parts_of, pick_read, type_or_none, state_type, number_read, value_of, bits_in, bits_value, constant_if, constant, fitted, truth, condition}
use Rattle.pm_typing.specs.Picks.{read_item, deque_item_at, deque_item, element, item}
use Rattle.pm_typing.specs.References.{bit, element_type, type_of}
use Rattle.pm_typing.specs.Sites.{Scope}
use Rattle.pm_typing.specs.Things as things
use Rattle.pm_typing.specs.Things.{Thing}
use Rattle.pm_type_laws.specs.Views.{Sees, View, is_temporary, is_typed}
use Rattle.pm_type_laws.specs.Good.{has_type, is_constant, is_reference, is_told, is_state, is_type}
use Rattle.pm_type_laws.proofs.Yields.{On, Where, Yields, bind, done, failed, lifted, test, some_nodes, a_node}
use Rattle.pm_type_laws.proofs.Things.{IsThing, IsOperand, IsPick, IsTyped}
use Rattle.pm_type_laws.proofs.Values.{both}
use Rattle.pm_type_laws.proofs.Cuts.{bit_is, bits_type, element_is, same_width, shape_eq, temporary_parts, type_width}
use Rattle.pm_type_laws.proofs.Picking.{item_is}

-- an expression whose typing is known has a type
pub has_type_by : (s : View) (scope : Scope) (e : Ex) (ty : ValueType) → IsTrue (typing s.sight e).fine
    → (typing s.sight e).width ≡ ty.width
    → IsTrue (reads_assigned s.assigned e) → IsTrue (is_type scope.design.design.shapes ty)
    → IsTrue (is_typed s scope e ty)
has_type_by s scope e ty fine wide reads is =
    both (has_width s.sight ty.width e) _ (both (typing s.sight e).fine _ fine (eq-eqb _ _ wide)) (both (reads_assigned s.assigned e) _ reads is)

-- what a type says of an expression
pub record Says (s : View) (scope : Scope) (e : Ex) (ty : ValueType) : Type 0 where
  pub fine : IsTrue (typing s.sight e).fine
  pub wide : (typing s.sight e).width ≡ ty.width
  pub reads : IsTrue (reads_assigned s.assigned e)
  pub typed : IsTrue (is_type scope.design.design.shapes ty)

pub typed_parts : (s : View) (scope : Scope) (e : Ex) (ty : ValueType) → IsTrue (is_typed s scope e ty)
    → Says s scope e ty
typed_parts s scope e ty is =
    let parts = and_parts (has_width s.sight ty.width e) _ is in
    let more = and_parts (reads_assigned s.assigned e) (is_type scope.design.design.shapes ty) parts.1 in
    let wide = and_parts (typing s.sight e).fine ((typing s.sight e).width == ty.width) parts.0 in
    record { fine = wide.0; wide = eqb-true _ _ wide.1; reads = more.0; typed = more.1 }

no_shape : (shape : Option ℕ) → IsTrue (if is_some shape then false else true) → None ≡ shape
no_shape None plain = refl
no_shape (Some k) plain = absurd (false≢true plain)

abbrev type_with : ℕ → Option ℕ → ValueType
type_with n shape = record { width = n; shape = shape }

type_by : (n m : ℕ) (shape other : Option ℕ) → n ≡ m → shape ≡ other → type_with n shape ≡ type_with m other
type_by n m shape other wide same = ap₂ type_with wide same

-- Bits of a width are the type without a bitstruct
pub bits_are : (n : ℕ) (ty : ValueType) → IsTrue (is_bits ty) → n ≡ ty.width → bits_of n ≡ ty
bits_are n ty plain same = type_by n ty.width None ty.shape same (no_shape ty.shape plain)

-- types that are one are equal
pub type_eq : (a b : ValueType) → IsTrue (same_type a b) → a ≡ b
type_eq a b same =
    type_by a.width b.width a.shape b.shape (same_width a b same) (shape_eq a.shape b.shape (and_parts (a.width == b.width) (option_eq nat_eq a.shape b.shape) same).1)

module _ (s : View) (scope : Scope) where
  made_is : (e : Ex) (ty : ValueType) → IsTrue (is_typed s scope e ty) → Yields (IsOperand s scope) (made e ty)
  made_is e ty is = a_node (IsOperand s scope) (operands.Bits e ty) is

  pub constant_typed : (w : Word) → IsTrue (is_constant w) → IsTrue (is_typed s scope (ex.Const w) (bits_of w.width))
  constant_typed w is =
      has_type_by s scope (ex.Const w) (bits_of w.width) (rw (typing_const s.sight w) is) (rw (typing_const s.sight w) refl)
      (rw (reads_const s.assigned w) refl)
      (both (is_width w.width) true (and_parts (is_width w.width) _ is).0 refl)

  signal_typed : Sees s scope → (r : Reference) → IsTrue (is_reference scope r)
      → IsTrue (is_typed s scope (ex.Get r.part) (type_of r))
  signal_typed sees r is =
      let parts = and_parts _ (is_type scope.design.design.shapes (type_of r)) is in
      has_type_by s scope (ex.Get r.part) (type_of r) (rw (typing_get s.sight r.part) (sees.reads r.part (and_parts (is_readable scope.design.design scope.kind r.part) (is_told scope r) parts.0).0)) (rw (typing_get s.sight r.part) refl)
      (rw (reads_get s.assigned r.part) refl) parts.1

  pub temporary_typed : (t lo : ℕ) (ty : ValueType) → IsTrue (is_temporary s scope t lo ty)
      → IsTrue (is_typed s scope (ex.Temp t lo ty.width) ty)
  temporary_typed t lo ty is =
      let parts = temporary_parts s scope t lo ty is in
      let wide = type_width scope.design.design.shapes ty parts.typed in
      has_type_by s scope (ex.Temp t lo ty.width) ty
      (rw (typing_temp s.sight t lo ty.width)
      (both (nat_lt t (length s.sight.temps)) _ (le-leb (suc t) (length s.sight.temps) parts.there)
      (both (nat_lt 0 ty.width) _ (le-leb 1 ty.width wide.0) (le-leb (lo + ty.width) (slice_index_or s.sight.temps t 0) parts.within))))
      (rw (typing_temp s.sight t lo ty.width) refl) (rw (reads_temp s.assigned t lo ty.width) parts.assigned) parts.typed

  parts_pass : (rs : List Reference) (n : ℕ) → Sees s scope
      → IsTrue (list_all (λ r. is_reference scope r && same_type (type_of r) (element_type rs)) rs)
      → (xs : List Reference)
      → IsTrue (list_all (λ r. is_reference scope r && same_type (type_of r) (element_type rs)) xs)
      → (element_type rs).width ≡ n → IsTrue (list_all (λ p. s.sight.reads p && p.width == n) (parts_of xs))
  unfolding parts_of
  parts_pass rs n sees all [] each wide = refl
  parts_pass rs n sees all (x ∷ xs) each wide =
      let parts = and_parts (is_reference scope x && same_type (type_of x) (element_type rs)) _ each in
      let here = and_parts (is_reference scope x) _ parts.0 in
      let seen = and_parts _ (is_type scope.design.design.shapes (type_of x)) here.0 in
      let same : x.part.width ≡ n = same_width (type_of x) (element_type rs) here.1 ∙ wide in
      both (s.sight.reads x.part && x.part.width == n) _ (both (s.sight.reads x.part) _ (sees.reads x.part (and_parts (is_readable scope.design.design scope.kind x.part) (is_told scope x) seen.0).0) (eq-eqb _ _ same))
      (parts_pass rs n sees all xs parts.1 wide)

  parts_length : (rs : List Reference) → length (parts_of rs) ≡ length rs
  unfolding parts_of
  parts_length [] = refl
  parts_length (r ∷ rs) = ap suc (parts_length rs)

  parts_width : (rs : List Reference) → element_width (parts_of rs) ≡ (element_type rs).width
  unfolding parts_of
  parts_width [] = refl
  parts_width (r ∷ rs) = refl

  pub pick_typed : Sees s scope → (e : Ex) (rs : List Reference) → IsPick s scope e rs
      → IsTrue (is_typed s scope (ex.Pick e (parts_of rs)) (element_type rs))
  pick_typed sees e rs is =
      let ps : List Part = parts_of rs in
      let count = parts_length rs in
      let some : 0 < length ps = omega (arith, count, is.some) in
      let reach : length ps ≤ 2 ^ (typing s.sight e).width = omega (arith, count, is.reach) in
      has_type_by s scope (ex.Pick e ps) (element_type rs)
      (rw (typing_pick s.sight e ps)
      (both (typing s.sight e).fine _ is.fine
      (both (nat_lt 0 (length ps)) _ (le-leb 1 (length ps) some)
      (both (nat_le (length ps) (2 ^ (typing s.sight e).width)) _ (le-leb _ _ reach)
      (parts_pass rs (element_width ps) sees is.elements rs is.elements (sym (parts_width rs)))))))
      (rw (typing_pick s.sight e ps) (parts_width rs)) (rw (reads_pick s.assigned e ps) is.reads) (element_is s scope rs is.some is.elements)

  -- ---- states

  -- a state as the sight has it
  pub record HasState (k : ℕ) : Type 0 where
    pub there : k < length s.sight.states
    pub width : (state_of s.sight k).width ≡ (state_type scope k).width
    pub most : (state_of s.sight k).maxlen ≡ most_items scope k
    pub few : most_items scope k ≤ 64
    pub ty : IsTrue (is_type scope.design.design.shapes (state_type scope k))

  abbrev held_of : State → Holding
  held_of x = record { width = x.width; maxlen = x.maxlen }

  abbrev no_holding : Holding
  no_holding = record { width = 0; maxlen = 0 }

  held_state : (xs : List State) (k : ℕ)
      → Where (λ (x : State). (k < length (map held_of xs)) × (slice_index_or (map held_of xs) k no_holding ≡ held_of x)) (slice_get xs k)
  held_state [] k = tt
  held_state (x ∷ xs) zero = (omega arith, refl)
  held_state (x ∷ xs) (suc k) = by (slice_get xs k) (held_state xs k)
    where
      by : (y : Option State)
          → Where (λ (y : State). (k < length (map held_of xs)) × (slice_index_or (map held_of xs) k no_holding ≡ held_of y)) y
          → Where (λ (y : State). (suc k < suc (length (map held_of xs))) × (slice_index_or (map held_of xs) k no_holding ≡ held_of y)) y
      by (Some y) is = (omega (arith, is.0), is.1)
      by None is = tt

  -- a state of the component is one of the sight
  pub state_held : Sees s scope → (k : ℕ) → IsTrue (is_state scope k) → HasState k
  unfolding state_type most_items
  state_held sees k is = by (slice_get scope.raw.states k) (slice_get scope.kind.states k) refl refl is (held_state scope.kind.states k)
    where
      by : (ty : Option ValueType) (state : Option State) → slice_get scope.raw.states k ≡ ty
          → slice_get scope.kind.states k ≡ state
          → IsTrue (has_type scope.design.design.shapes ty state)
          → Where (λ (x : State). (k < length (map held_of scope.kind.states)) × (slice_index_or (map held_of scope.kind.states) k no_holding ≡ held_of x)) state
          → HasState k
      by None None a b is at = absurd (false≢true is)
      by None (Some x) a b is at = absurd (false≢true is)
      by (Some ty) None a b is at = absurd (false≢true is)
      by (Some ty) (Some x) a b is at =
          let parts = and_parts (ty.width == x.width) _ is in
          let good = and_parts (nat_le x.maxlen 64) (is_type scope.design.design.shapes ty) parts.1 in
          let same : state_of s.sight k ≡ held_of x = ap (λ (hs : List Holding). slice_index_or hs k no_holding) sees.states ∙ at.1 in
          record {
            there = subst (λ (hs : List Holding). k < length hs) (sym sees.states) at.0;
            width = ap (λ (h : Holding). h.width) same ∙ (sym (eqb-true _ _ parts.0) ∙ ap (λ (t : Option ValueType). (type_or_none t).width) (sym a));
            most = ap (λ (h : Holding). h.maxlen) same ∙ ap most_of (sym b);
            few = subst (λ (x : Option State). most_of x ≤ 64) (sym b) (leb-true _ _ good.0);
            ty = subst (λ (t : Option ValueType). IsTrue (is_type scope.design.design.shapes (type_or_none t))) (sym a) good.1;
          }

  pub number_typed : (k : ℕ) → HasState k → nat_lt 0 (most_items scope k) ≡ false
      → IsTrue (is_typed s scope (ex.Number k) (state_type scope k))
  number_typed k is none =
      let zero_most : most_items scope k ≡ 0 = grind (arith, none) in
      has_type_by s scope (ex.Number k) (state_type scope k)
      (rw (typing_number s.sight k) (both (nat_lt k (length s.sight.states)) _ (le-leb (suc k) (length s.sight.states) is.there) (eq-eqb _ _ (is.most ∙ zero_most))))
      (rw (typing_number s.sight k) is.width) (rw (reads_number s.assigned k) refl) is.ty

  pub deque_has : (k i : ℕ) → HasState k → i < most_items scope k → IsTrue (is_deque s.sight i k)
  deque_has k i is within =
      both (nat_lt k (length s.sight.states)) _ (le-leb (suc k) (length s.sight.states) is.there)
      (le-leb (suc i) (state_of s.sight k).maxlen (omega (arith, within, is.most)))

  item_typed : (k i : ℕ) → HasState k → i < most_items scope k
      → IsTrue (is_typed s scope (ex.Item k i) (state_type scope k))
  item_typed k i is within =
      has_type_by s scope (ex.Item k i) (state_type scope k) (rw (typing_item s.sight k i) (deque_has k i is within)) (rw (typing_item s.sight k i) is.width) (rw (reads_item s.assigned k i) refl) is.ty

  last_typed : (k : ℕ) → HasState k → 0 < most_items scope k
      → IsTrue (is_typed s scope (ex.Last k) (state_type scope k))
  last_typed k is within =
      has_type_by s scope (ex.Last k) (state_type scope k) (rw (typing_last s.sight k) (deque_has k 0 is within)) (rw (typing_last s.sight k) is.width) (rw (reads_last s.assigned k) refl) is.ty

  -- ---- things as values

  signal_value : Sees s scope → (line : ℕ) (r : Reference) → IsTrue (is_reference scope r)
      → Yields (IsOperand s scope) (signal_read scope line r)
  unfolding signal_read
  signal_value sees line r is =
      test (IsOperand s scope) (may_read scope.sort r) _ _ (λ _. made_is (ex.Get r.part) (type_of r) (signal_typed sees r is))
      (failed (IsOperand s scope) (NotAllowedHere line))

  pick_value : Sees s scope → (line : ℕ) (e : Ex) (rs : List Reference) → IsPick s scope e rs
      → Yields (IsOperand s scope) (pick_read scope line e rs)
  unfolding pick_read
  pick_value sees line e rs is =
      test (IsOperand s scope) (may_read_all scope.sort rs) _ _ (λ _. made_is (ex.Pick e (parts_of rs)) (element_type rs) (pick_typed sees e rs is))
      (failed (IsOperand s scope) (NotAllowedHere line))

  number_value : Sees s scope → (line k : ℕ) → IsTrue (is_state scope k)
      → Yields (IsOperand s scope) (number_read scope line k)
  unfolding number_read
  number_value sees line k is = by (nat_lt 0 (most_items scope k)) refl
    where
      by : (b : Bool) → nat_lt 0 (most_items scope k) ≡ b
          → Yields (IsOperand s scope) (if b then fail (NotAllowedHere line) else made (ex.Number k) (state_type scope k))
      by true e = failed (IsOperand s scope) (NotAllowedHere line)
      by false e = made_is (ex.Number k) (state_type scope k) (number_typed k (state_held sees k is) e)

  -- a thing as a value
  pub value_is : Sees s scope → (line : ℕ) (t : Thing) → IsThing s scope t
      → Yields (IsOperand s scope) (value_of scope line t)
  unfolding value_of
  value_is sees line (things.integer n) is = done (IsOperand s scope) (operands.Int n) tt
  value_is sees line (things.constant w) is = made_is (ex.Const w) (bits_of w.width) (constant_typed w is)
  value_is sees line (things.signal r) is = signal_value sees line r is
  value_is sees line (things.temporary t lo ty) is = made_is (ex.Temp t lo ty.width) ty (temporary_typed t lo ty is)
  value_is sees line (things.pick e rs) is = pick_value sees line e rs is
  value_is sees line (things.state k) is = number_value sees line k is
  value_is sees line (things.value e ty) is = done (IsOperand s scope) (operands.Bits e ty) is
  value_is sees line _ is = failed (IsOperand s scope) (NotAllowedHere line)

  pub bits_is : (line : ℕ) (x : Operand) → IsOperand s scope x → On (IsTyped s scope) (bits_in line x)
  unfolding bits_in
  bits_is line (operands.Int n) is = tt
  bits_is line (operands.Bits e ty) is = is

  -- a thing as a value that has a width by itself
  pub bits_value_is : Sees s scope → (line : ℕ) (t : Thing) → IsThing s scope t
      → Yields (IsTyped s scope) (bits_value scope line t)
  unfolding bits_value
  bits_value_is sees line t is =
      bind (IsOperand s scope) (IsTyped s scope) (value_of scope line t) (λ x. lift (bits_in line x)) (value_is sees line t is)
      (λ x ok. lifted (IsTyped s scope) (bits_in line x) (bits_is line x ok))

  -- ---- widths of integers

  -- an expression that fits a type
  abbrev pub Fits : ValueType → Ex → Type 0
  Fits ty e = IsTrue (is_typed s scope e ty)

  pub word_fits : (width : ℕ) (n : ℤ)
      → Where (λ (w : Word). (w.width ≡ width) × IsTrue (is_constant w)) (constant_of width n)
  unfolding constant_of
  word_fits width n = by (is_width width && fits_width width n) refl
    where
      by : (b : Bool) → (is_width width && fits_width width n) ≡ b
          → Where (λ (w : Word). (w.width ≡ width) × IsTrue (is_constant w)) (if b then Some (word_of_int width n) else None)
      by true e =
          let wide = and_parts (is_width width) (fits_width width n) e in
          let bounds = and_parts (nat_le 1 width) (nat_le width 128) wide.0 in
          let word = int_is_word width n (leb-true _ _ bounds.0) (leb-true _ _ bounds.1) in
          (refl, both (is_width width) _ wide.0 (le-leb _ _ word.fits))
      by false e = tt

  pub constant_fits : (line : ℕ) (ty : ValueType) (w : Option Word) → IsTrue (is_bits ty)
      → Where (λ (w : Word). (w.width ≡ ty.width) × IsTrue (is_constant w)) w → Yields (Fits ty) (constant_if line w)
  constant_fits line ty None plain is = failed (Fits ty) (ConstRange line)
  constant_fits line ty (Some w) plain is =
      a_node (Fits ty) (ex.Const w) (subst (λ (t : ValueType). Fits t (ex.Const w)) (bits_are w.width ty plain is.0) (constant_typed w is.1))

  -- a value for a place of a type
  pub fitted_is : (line : ℕ) (ty : ValueType) (x : Operand) → IsOperand s scope x → Yields (Fits ty) (fitted line ty x)
  unfolding fitted constant
  fitted_is line ty (operands.Int n) is = by (is_bits ty) refl
    where
      by : (b : Bool) → is_bits ty ≡ b
          → Yields (Fits ty) (if b then constant_if line (constant_of ty.width n) else fail (WidthMismatch line))
      by true plain = constant_fits line ty (constant_of ty.width n) plain (word_fits ty.width n)
      by false plain = failed (Fits ty) (WidthMismatch line)
  fitted_is line ty (operands.Bits e other) is =
      test (Fits ty) (same_type other ty) (pure e) _ (λ same. done (Fits ty) e (subst (λ (t : ValueType). Fits t e) (type_eq other ty same) is))
      (failed (Fits ty) (WidthMismatch line))

  -- ---- conditions

  truth_fits : (e : Ex) (width : ℕ) → IsTrue (is_typed s scope e (bits_of width))
      → Yields (Fits (bits_of 1)) (truth e width)
  unfolding truth node
  truth_fits e width is = by (width == 1) refl
    where
      zero_word : Word
      zero_word = record { width = width; value = 0 }

      compared : IsTrue (is_typed s scope (ex.Bin op.Ne e (ex.Const zero_word)) (bits_of 1))
      compared =
          let parts = typed_parts s scope e (bits_of width) is in
          let wide = type_width scope.design.design.shapes (bits_of width) parts.typed in
          has_type_by s scope (ex.Bin op.Ne e (ex.Const zero_word)) (bits_of 1)
          (rw (typing_bin s.sight op.Ne e (ex.Const zero_word), typing_const s.sight zero_word)
          (both (typing s.sight e).fine _ parts.fine
          (both (is_width width && nat_lt 0 (2 ^ width)) _
          (both (is_width width) _ (and_parts (is_width width) true parts.typed).0 (le-leb 1 (2 ^ width) (pow_pos width)))
          (eq-eqb _ _ parts.wide))))
          (rw (typing_bin s.sight op.Ne e (ex.Const zero_word)) refl)
          (rw (reads_bin s.assigned op.Ne e (ex.Const zero_word), reads_const s.assigned zero_word) (both (reads_assigned s.assigned e) true parts.reads refl))
          (bits_type scope.design.design.shapes 1 (omega arith) (omega arith))

      by : (b : Bool) → (width == 1) ≡ b
          → Yields (Fits (bits_of 1)) (if b then pure e else node >> (node >> pure (ex.Bin op.Ne e (ex.Const zero_word))))
      by true one = done (Fits (bits_of 1)) e (subst (λ (n : ℕ). IsTrue (is_typed s scope e (bits_of n))) (eqb-true width 1 one) is)
      by false more =
          some_nodes (Fits (bits_of 1)) 1 (node >> pure (ex.Bin op.Ne e (ex.Const zero_word)))
          (a_node (Fits (bits_of 1)) (ex.Bin op.Ne e (ex.Const zero_word)) compared)

  -- an expression as a condition
  pub condition_fits : (line : ℕ) (e : Ex) (ty : ValueType) → IsTrue (is_typed s scope e ty)
      → Yields (Fits (bits_of 1)) (condition line e ty)
  unfolding condition
  condition_fits line e ty is =
      test (Fits (bits_of 1)) (is_bits ty) (truth e ty.width) _
      (λ plain. truth_fits e ty.width (subst (λ (t : ValueType). IsTrue (is_typed s scope e t)) (sym (bits_are ty.width ty plain refl)) is))
      (failed (Fits (bits_of 1)) (WidthMismatch line))

  -- ---- elements

  item_read : (k : ℕ) (e : Ex) → IsTrue (is_typed s scope e (state_type scope k))
      → Yields (IsThing s scope) (read_item scope k e)
  item_read k e is = a_node (IsThing s scope) (things.value e (state_type scope k)) is

  deque_item_is : Sees s scope → (line k : ℕ) (i : ℤ) → IsTrue (is_state scope k)
      → Yields (IsThing s scope) (deque_item scope line k i)
  unfolding deque_item
  deque_item_is sees line k i is =
      test (IsThing s scope) (nat_lt 0 (most_items scope k)) (deque_item_at scope line k i) _ (λ some. by i some) (failed (IsThing s scope) (NotAllowedHere line))
    where
      held : HasState k
      held = state_held sees k is

      by : (i : ℤ) → IsTrue (nat_lt 0 (most_items scope k)) → Yields (IsThing s scope) (deque_item_at scope line k i)
      by (pos j) some =
          test (IsThing s scope) (nat_lt j (most_items scope k)) (read_item scope k (ex.Item k j)) _
          (λ within. item_read k (ex.Item k j) (item_typed k j held (ltb-true _ _ within))) (failed (IsThing s scope) (IndexRange line))
      by (negsuc j) some =
          test (IsThing s scope) (nat_eq j 0) (read_item scope k (ex.Last k)) _
          (λ _. item_read k (ex.Last k) (last_typed k held (ltb-true _ _ some))) (failed (IsThing s scope) (IndexRange line))

  -- `x[k]` of an integer k
  pub element_of : Sees s scope → (line : ℕ) (k : ℤ) (t : Thing) → IsThing s scope t
      → Yields (IsThing s scope) (element scope line k t)
  unfolding element
  element_of sees line k (things.items whose vs) is = lifted (IsThing s scope) (item line whose vs k) (item_is s scope sees line whose vs k is)
  element_of sees line k (things.state n) is = deque_item_is sees line n k is
  element_of sees line k t is = lifted (IsThing s scope) (bit line k t) (bit_is s scope line k t is)
