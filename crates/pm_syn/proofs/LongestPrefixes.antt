-- Proof that a test which some prefix of a text passes has a longest one that does, so that the longest digits, the longest
-- literal and the longest operator at the start of a text exist.
use Rattle.std.proofs.Common.{◌≡◌, ◌==◌, ◌⊎◌, ◌+◌, ◌<◌, ◌≤◌, ◌^◌, ◌++◌, ℕ, zero, suc, Bool, true, false, List, [], ◌∷◌, length, take, drop, get_or, Option, Some, None, refl, inl, inr, ap, sym, subst, ◌∙◌, append-nil, append_assoc, arith}
use Rattle.std.specs.Prelude.{◌&&◌, if◌then◌else◌}
use Rattle.std.specs.Char.{is_ascii_digit, is_digit}
use Rattle.std.proofs.lemmas.Bool.{and_parts, cases_Bool, cases_order, eqb-true, eq-eqb, false≢true}
use Rattle.std.proofs.lemmas.Bool.Decides.{nat_tests}
use Rattle.std.proofs.lemmas.List.{take_at, length-append}
use Rattle.pm_syn.specs.Heads.{AreLongestDigits, BeginsWithDigit, HasNoOperator, IsLongestLiteral, IsLongestOperator, IsNumberRead}
use Rattle.pm_syn.specs.Numbers.{AreDigits, base_of, value_of}
use Rattle.pm_syn.specs.Operators.{is_operator}
use Rattle.pm_syn.specs.declared.number.Literal.{Literal}
use Rattle.pm_syn.proofs.Literals.{longest-based, longest-decimal, longest-zero, no_based-no_base, no_based-no_digit, no_based-short}

-- ---- the longest prefix

-- no prefix of the text that passes has more bytes
abbrev IsBound : (List ℕ → Bool) → List ℕ → ℕ → Type 0
IsBound test text count = (start rest : List ℕ) → start ++ rest ≡ text → test start ≡ true → length start ≤ count

-- this many bytes of the text pass, and no longer prefix does
record IsLongestPassing (test : List ℕ → Bool) (text : List ℕ) (count : ℕ) : Type 0 where
  within : count ≤ length text
  passes : test (take count text) ≡ true
  longest : IsBound test text count

-- no prefix of the text passes
abbrev NonePasses : (List ℕ → Bool) → List ℕ → Type 0
NonePasses test text = (start rest : List ℕ) → start ++ rest ≡ text → test start ≡ true → ⊥

-- a prefix with this many bytes fails, so that those that pass have fewer
bound_less : (test : List ℕ → Bool) (text : List ℕ) (count : ℕ) → IsBound test text (suc count) → test (take (suc count) text) ≡ false
    → IsBound test text count
bound_less test text count bound fails start rest is passes =
    let most = bound start rest is passes in
    let other : length start ≡ suc count → ⊥ =
    λ same. false≢true (sym fails ∙ ap (λ (all : List ℕ). test (take (suc count) all)) (sym is) ∙ ap test (take_at start rest (suc count) same) ∙ passes) in
    omega (arith, most, other)

-- the empty prefix fails, so that none passes
none_passes : (test : List ℕ → Bool) (text : List ℕ) → IsBound test text 0 → test [] ≡ false → NonePasses test text
none_passes test text bound fails [] rest is passes = false≢true (sym fails ∙ passes)
none_passes test text bound fails (byte ∷ start) rest is passes = let most = bound (byte ∷ start) rest is passes in omega (arith, most)

longest_up_to : (test : List ℕ → Bool) (text : List ℕ) (count : ℕ) → count ≤ length text → IsBound test text count
    → ((longest : ℕ) × IsLongestPassing test text longest) ⊎ NonePasses test text
longest_up_to test text zero within bound = elim (cases_Bool (test [])) [
  | inl passes ↦ inl (0, record { within = within; passes = passes; longest = bound })
  | inr fails ↦ inr (none_passes test text bound fails)
]
longest_up_to test text (suc count) within bound = elim (cases_Bool (test (take (suc count) text))) [
  | inl passes ↦ inl (suc count, record { within = within; passes = passes; longest = bound })
  | inr fails ↦ longest_up_to test text count (omega (arith, within)) (bound_less test text count bound fails)
]

-- a longest prefix passes, or none does
longest_passing : (test : List ℕ → Bool) (text : List ℕ) → ((longest : ℕ) × IsLongestPassing test text longest) ⊎ NonePasses test text
longest_passing test text =
    longest_up_to test text (length text) (omega arith) (λ start rest is passes. omega (arith, length-append start rest, ap length is))

-- ---- digits

-- whether bytes continue digits of the base, or begin them
abbrev continue_digits : ℕ → Bool → List ℕ → Bool
continue_digits base digit_before [] = digit_before
continue_digits base digit_before (byte ∷ bytes) =
    if is_digit byte base then continue_digits base true bytes else if digit_before then byte == 95 && continue_digits base false bytes else false

-- whether bytes are digits of the base
abbrev are_digits : ℕ → List ℕ → Bool
are_digits base bytes = continue_digits base false bytes

digits_continued : (base : ℕ) (before bytes : List ℕ) → AreDigits base before → continue_digits base true bytes ≡ true → AreDigits base (before ++ bytes)
digits_continued base before [] are passes = subst (AreDigits base) (sym (append-nil before)) are
digits_continued base before (byte ∷ []) are passes = elim (cases_Bool (is_digit byte base)) [
  | inl digit ↦ AreDigits.more before byte are digit
  | inr other ↦ absurd (false≢true (and_parts (byte == 95) false (rw other at passes)).1)
]
digits_continued base before (byte ∷ next ∷ bytes) are passes = elim (cases_Bool (is_digit byte base)) [
  | inl digit ↦
      subst (AreDigits base) (append_assoc before (byte ∷ []) (next ∷ bytes)) (
      digits_continued base (before ++ byte ∷ []) (next ∷ bytes) (AreDigits.more before byte are digit) (rw digit at passes))
  | inr other ↦
      let parts = and_parts (byte == 95) (continue_digits base false (next ∷ bytes)) (rw other at passes) in
      elim (cases_Bool (is_digit next base)) [
        | inl digit ↦
            let underscore : byte ≡ 95 = eqb-true byte 95 parts.0 in
            let spelled : AreDigits base (before ++ byte ∷ next ∷ []) =
            subst (λ (mark : ℕ). AreDigits base (before ++ mark ∷ next ∷ [])) (sym underscore) (AreDigits.spaced before next are digit) in
            subst (AreDigits base) (append_assoc before (byte ∷ next ∷ []) bytes) (
            digits_continued base (before ++ byte ∷ next ∷ []) bytes spelled (rw digit at parts.1))
        | inr none ↦ absurd (false≢true (rw none at parts.1))
      ]
]

digits_from_test : (base : ℕ) (bytes : List ℕ) → are_digits base bytes ≡ true → AreDigits base bytes
digits_from_test base [] passes = absurd (false≢true passes)
digits_from_test base (byte ∷ bytes) passes = elim (cases_Bool (is_digit byte base)) [
  | inl digit ↦ digits_continued base (byte ∷ []) bytes (AreDigits.one byte digit) (rw digit at passes)
  | inr other ↦ absurd (false≢true (rw other at passes))
]

-- digits leave what comes after them to be tested
digits_tested : {base : ℕ} {digits : List ℕ} → AreDigits base digits → (digit_before : Bool) (rest : List ℕ)
    → continue_digits base digit_before (digits ++ rest) ≡ continue_digits base true rest
digits_tested (AreDigits.one digit is) digit_before rest = rw is refl
digits_tested {base} (AreDigits.more digits digit prefix is) digit_before rest =
    ap (continue_digits base digit_before) (append_assoc digits (digit ∷ []) rest) ∙ digits_tested prefix digit_before (digit ∷ rest) ∙ rw is refl
digits_tested {base} (AreDigits.spaced digits digit prefix is) digit_before rest =
    let underscore : continue_digits base true (95 ∷ digit ∷ rest) ≡ continue_digits base true rest = elim (cases_Bool (is_digit 95 base)) [
      | inl mark ↦ rw (mark, is) refl
      | inr other ↦ rw (other, is) refl
    ] in
    ap (continue_digits base digit_before) (append_assoc digits (95 ∷ digit ∷ []) rest) ∙ digits_tested prefix digit_before (95 ∷ digit ∷ rest) ∙ underscore

digits_pass : {base : ℕ} {digits : List ℕ} → AreDigits base digits → are_digits base digits ≡ true
digits_pass {base} {digits} are = ap (continue_digits base false) (sym (append-nil digits)) ∙ digits_tested are false []

-- a number, where it has at most 128 bits
number_read : (number : ℕ) → (read : Option ℕ) × IsNumberRead number read
number_read number = elim (cases_order number (2 ^ 128)) [
  | inl same ↦ (None, omega (arith, same))
  | inr (inl less) ↦ (Some number, (less, refl))
  | inr (inr more) ↦ (None, omega (arith, more))
]

-- the longest digits at the start of a text that begins with one
longest_digits_there : (base : ℕ) (text : List ℕ) → BeginsWithDigit base text → (digits : Literal) × AreLongestDigits base text digits
longest_digits_there base [] begins = absurd begins
longest_digits_there base (first ∷ text) begins = elim (longest_passing (are_digits base) (first ∷ text)) [
  | inl found ↦
      let number = number_read (value_of base (take found.0 (first ∷ text))) in
      let most = found.1.longest (first ∷ []) text refl (digits_pass (AreDigits.one first begins)) in (
        record { length = found.0; number = number.0 },
        record {
          some = omega (arith, most);
          within = found.1.within;
          read = number.1;
          spelled = digits_from_test base (take found.0 (first ∷ text)) found.1.passes;
          longest = λ start rest is are. found.1.longest start rest is (digits_pass are);
        },
      )
  | inr none ↦ absurd (none (first ∷ []) text refl (digits_pass (AreDigits.one first begins)))
]

-- ---- literals

-- the third byte is a digit of the base
begins_third : (text : List ℕ) (base : ℕ) → 2 < length text → is_digit (get_or (drop 2 text) 0 0) base ≡ true → BeginsWithDigit base (drop 2 text)
begins_third [] base within digit = absurd (omega (arith, within))
begins_third (a ∷ []) base within digit = absurd (omega (arith, within))
begins_third (a ∷ b ∷ []) base within digit = absurd (omega (arith, within))
begins_third (a ∷ b ∷ c ∷ text) base within digit = digit

-- the longest literal at the start of a text that begins with `0` and names a base
longest_based_there : (text : List ℕ) (base : ℕ) → 0 < length text → get_or text 0 0 ≡ 48 → base_of (get_or text 1 0) ≡ Some base
    → (literal : Literal) × IsLongestLiteral text literal
longest_based_there text base some nought names = elim (cases_Bool (is_digit (get_or (drop 2 text) 0 0) base)) [
  | inl digit ↦ elim (cases_order (length text) 2) [
    | inl two ↦ (
      record { length = 1; number = Some 0 },
      longest-zero text some nought (
          no_based-short text (omega (arith, two))),
    )
    | inr (inl short) ↦ (
      record { length = 1; number = Some 0 },
      longest-zero text some nought (
          no_based-short text (omega (arith, short))),
    )
    | inr (inr long) ↦
        let digits = longest_digits_there base (drop 2 text) (begins_third text base long digit) in
        (record { length = digits.0.length + 2; number = digits.0.number }, longest-based text base digits.0 nought names (omega (arith, long)) digits.1)
  ]
  | inr other ↦ (record { length = 1; number = Some 0 }, longest-zero text some nought (no_based-no_digit text base names other))
]

-- whether a base is named
base_cases : (found : Option ℕ) → (found ≡ None) ⊎ ((base : ℕ) × (found ≡ Some base))
base_cases None = inl refl
base_cases (Some base) = inr (base, refl)

decimal_begins : (text : List ℕ) → 0 < length text → is_ascii_digit (get_or text 0 0) ≡ true → BeginsWithDigit 10 text
decimal_begins [] some digit = absurd (omega (arith, some))
decimal_begins (a ∷ text) some digit = let is : is_digit a 10 ≡ true = grind (arith, nat_tests) in is

-- the longest literal at the start of a text that begins with a decimal digit
pub longest_literal_there : (text : List ℕ) → 0 < length text → is_ascii_digit (get_or text 0 0) ≡ true
    → (literal : Literal) × IsLongestLiteral text literal
longest_literal_there text some digit = elim (cases_Bool (get_or text 0 0 == 48)) [
  | inl nought ↦ elim (base_cases (base_of (get_or text 1 0))) [
    | inl none ↦
        (record { length = 1; number = Some 0 }, longest-zero text some (eqb-true (get_or text 0 0) 48 nought) (no_based-no_base text none))
    | inr named ↦ longest_based_there text named.0 some (eqb-true (get_or text 0 0) 48 nought) named.1
  ]
  | inr other ↦
      let digits = longest_digits_there 10 text (decimal_begins text some digit) in
      (digits.0, longest-decimal text digits.0 (λ same. false≢true (sym other ∙ eq-eqb (get_or text 0 0) 48 same)) digits.1)
]

-- ---- operators

-- the longest operator at the start of a text, or none
pub longest_operator_there : (text : List ℕ) → ((count : ℕ) × IsLongestOperator text count) ⊎ HasNoOperator text
longest_operator_there text = elim (longest_passing is_operator text) [
  | inl found ↦ inl (found.0, longest_found found.0 found.1)
  | inr none ↦ inr none
] where
  longest_found : (count : ℕ) → IsLongestPassing is_operator text count → IsLongestOperator text count
  longest_found zero found = absurd (false≢true found.passes)
  longest_found (suc count) found = record {
    some = omega arith;
    within = found.within;
    spelled = found.passes;
    longest = found.longest;
  }
