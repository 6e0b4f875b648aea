-- The digits and the literal that are read of a word are the ones that it spells.
use Rattle.std.proofs.Common.{◌≡◌, ◌≢◌, ◌+◌, ◌*◌, ◌<◌, ◌≤◌, ◌^◌, ◌++◌, ◌∙◌, ◌==◌, ℕ, true, false, List, [], ◌∷◌, refl, inl, inr, ap, sym, subst, append-nil, append_assoc, arith, lit≤}
use Rattle.std.specs.Prelude.{Some, ◌&&◌, if◌then◌else◌}
use Rattle.std.specs.Option.{option_and_then}
use Rattle.std.specs.Char.{digit_value, is_digit}
use Rattle.std.proofs.lemmas.Bool.{and_parts, cases_Bool, eqb-true, eq-eqb, false≢true}
use Rattle.std.proofs.lemmas.Bool.Decides.{nat_tests}
use Rattle.pm_syn.specs.Numbers.{AreDigits, IsBased, IsDecimal, IsLiteral, base_of, value_after, value_of}
use Rattle.pm_words.specs.Readings.{after_zero, digits_of, followed_by, literal_of, no_digits, number_in, with_byte, with_bytes}
use Rattle.pm_words.specs.declared.literal.Digits.{Digits}
use Rattle.pm_words.proofs.Digits.{le-value_after}
use Rattle.pm_words.proofs.Steps.{mapped, nothing, same_some, step_to, stepped, test_to, tested}

-- ---- the number of digits

value_after-append : (base number : ℕ) (digits more : List ℕ)
    → value_after base number (digits ++ more) ≡ value_after base (value_after base number digits) more
value_after-append base number [] more = refl
value_after-append base number (byte ∷ digits) more =
    value_after-append base (if byte == 95 then number else number * base + digit_value byte) digits more

-- an underscore is no digit
mark_no_digit : (base : ℕ) → base ≤ 16 → is_digit 95 base ≡ false
mark_no_digit base low = grind (arith, nat_tests, low)

digit_no_mark : (base byte : ℕ) → base ≤ 16 → is_digit byte base ≡ true → (byte == 95) ≡ false
digit_no_mark base byte low digit = elim (cases_Bool (byte == 95)) [
  | inl mark ↦
      absurd (false≢true
      (sym (mark_no_digit base low) ∙ ap (λ (b : ℕ). is_digit b base) (sym (eqb-true byte 95 mark)) ∙ digit))
  | inr other ↦ other
]

value_digit : (base byte : ℕ) (digits : List ℕ) → base ≤ 16 → is_digit byte base ≡ true
    → value_of base (digits ++ byte ∷ []) ≡ value_of base digits * base + digit_value byte
value_digit base byte digits low digit = value_after-append base 0 digits (byte ∷ [])
    ∙ rw (digit_no_mark base byte low digit) refl

value_spaced : (base byte : ℕ) (digits : List ℕ) → base ≤ 16 → is_digit byte base ≡ true
    → value_of base (digits ++ 95 ∷ byte ∷ []) ≡ value_of base digits * base + digit_value byte
value_spaced base byte digits low digit = value_after-append base 0 digits (95 ∷ byte ∷ [])
    ∙ rw (digit_no_mark base byte low digit) refl

-- ---- digits that are read are digits

followed : (number base digit next : ℕ) → followed_by number base digit ≡ Some next → next ≡ number * base + digit
unfolding followed_by
followed number base digit next is = sym (tested _ _ _ is).1

-- a digit is read
byte_read : (base : ℕ) (read next : Digits) (byte : ℕ) → is_digit byte base ≡ true
    → with_byte base read byte ≡ Some next
    → next ≡ record { number = read.number * base + digit_value byte; is_complete = true }
byte_read base read next byte digit is =
    let made =
    mapped (followed_by read.number base (digit_value byte))
    (λ (number : ℕ). record { number = number; is_complete = true }) next (rw digit at is) in
    sym made.2
    ∙ ap (λ (number : ℕ). record { number = number; is_complete = true })
    (followed read.number base (digit_value byte) made.0 made.1)

-- an underscore is read
mark_read : (base : ℕ) (read next : Digits) (byte : ℕ) → is_digit byte base ≡ false
    → with_byte base read byte ≡ Some next
    → (read.is_complete ≡ true) × (byte ≡ 95) × (next ≡ record { number = read.number; is_complete = false })
mark_read base read next byte other is =
    let test =
    tested (read.is_complete && byte == 95) (record { number = read.number; is_complete = false }) next
    (rw other at is) in
    let parts = and_parts read.is_complete (byte == 95) test.0 in
    (parts.0, eqb-true byte 95 parts.1, sym test.1)

-- the digits before and their number, and what is read after them
record IsRead (base number : ℕ) (all : List ℕ) : Type 0 where
  are : AreDigits base all
  written : number ≡ value_of base all

-- a digit, and what is read after it
digit_first : (base : ℕ) (read : Digits) (byte : ℕ) (bytes : List ℕ) (number value : ℕ) → is_digit byte base ≡ true
    → value ≡ read.number * base + digit_value byte
    → option_and_then number_in (with_bytes base read (byte ∷ bytes)) ≡ Some number
    → option_and_then number_in (with_bytes base (record { number = value; is_complete = true }) bytes) ≡ Some number
digit_first base read byte bytes number value digit is read_so =
    let whole = stepped (with_bytes base read (byte ∷ bytes)) number_in number read_so in
    let first = stepped (with_byte base read byte) (λ (next : Digits). with_bytes base next bytes) whole.0 whole.1 in
    let next : first.0 ≡ record { number = value; is_complete = true } =
    byte_read base read first.0 byte digit first.1
    ∙ ap (λ (n : ℕ). record { number = n; is_complete = true }) (sym is) in
    let rest : with_bytes base (record { number = value; is_complete = true }) bytes ≡ Some whole.0 =
    subst (λ (d : Digits). with_bytes base d bytes ≡ Some whole.0) next first.2 in
    step_to (with_bytes base
    (record { number = value; is_complete = true }) bytes) number_in whole.0 number rest whole.2

-- an underscore, and what is read after it
mark_first : (base : ℕ) (read : Digits) (byte : ℕ) (bytes : List ℕ) (number : ℕ) → is_digit byte base ≡ false
    → option_and_then number_in (with_bytes base read (byte ∷ bytes)) ≡ Some number
    → (read.is_complete ≡ true) × (byte ≡ 95)
    × (option_and_then number_in (with_bytes base (record { number = read.number; is_complete = false }) bytes)
    ≡ Some number)
mark_first base read byte bytes number other read_so =
    let whole = stepped (with_bytes base read (byte ∷ bytes)) number_in number read_so in
    let first = stepped (with_byte base read byte) (λ (next : Digits). with_bytes base next bytes) whole.0 whole.1 in
    let mark = mark_read base read first.0 byte other first.1 in
    let rest : with_bytes base (record { number = read.number; is_complete = false }) bytes ≡ Some whole.0 =
    subst (λ (d : Digits). with_bytes base d bytes ≡ Some whole.0) mark.2 first.2 in (
      mark.0,
      mark.1,
      step_to
          (with_bytes base
          (record { number = read.number; is_complete = false }) bytes) number_in whole.0 number rest whole.2,
    )

read_on : (base : ℕ) (before bytes : List ℕ) (number : ℕ) → base ≤ 16 → AreDigits base before
    → option_and_then number_in (with_bytes base (record { number = value_of base before; is_complete = true }) bytes)
    ≡ Some number
    → IsRead base number (before ++ bytes)
read_on base before [] number low are is = record {
  are = subst (AreDigits base) (sym (append-nil before)) are;
  written = sym (same_some (value_of base before) number is) ∙ ap (value_of base) (sym (append-nil before));
}
read_on base before (byte ∷ []) number low are is = elim (cases_Bool (is_digit byte base)) [
  | inl digit ↦ subst (IsRead base number) (append_assoc before (byte ∷ []) []) (
      read_on base (before ++ byte ∷ []) [] number low (AreDigits.more before byte are digit)
      (digit_first base (record { number = value_of base before; is_complete = true }) byte [] number _ digit
      (value_digit base byte before low digit) is))
  | inr other ↦
      absurd (nothing number
      (mark_first base (record { number = value_of base before; is_complete = true }) byte [] number other is).2)
]
read_on base before (byte ∷ next ∷ bytes) number low are is = elim (cases_Bool (is_digit byte base)) [
  | inl digit ↦ subst (IsRead base number) (append_assoc before (byte ∷ []) (next ∷ bytes)) (
      read_on base (before ++ byte ∷ []) (next ∷ bytes) number low (AreDigits.more before byte are digit)
      (digit_first base (record { number = value_of base before; is_complete = true }) byte
      (next ∷ bytes) number _ digit (value_digit base byte before low digit) is))
  | inr other ↦
      let mark =
      mark_first base (record { number = value_of base before; is_complete = true }) byte
      (next ∷ bytes) number other is in
      let after : Digits = record { number = value_of base before; is_complete = false } in
      elim (cases_Bool (is_digit next base)) [
        | inl digit ↦
            subst (λ (b : ℕ). IsRead base number (before ++ b ∷ next ∷ bytes)) (sym mark.1) (
            subst (IsRead base number) (append_assoc before (95 ∷ next ∷ []) bytes) (
            read_on base (before ++ 95 ∷ next ∷ []) bytes number low (AreDigits.spaced before next are digit)
            (digit_first base after next bytes number _ digit (value_spaced base next before low digit) mark.2)))
        | inr none ↦ absurd (false≢true (mark_first base after next bytes number none mark.2).0)
      ]
]

-- the number that is read is one of digits
pub digits_read : (base : ℕ) (bytes : List ℕ) (number : ℕ) → base ≤ 16 → digits_of base bytes ≡ Some number
    → AreDigits base bytes × (number ≡ value_of base bytes)
unfolding digits_of
digits_read base [] number low is = absurd (nothing number is)
digits_read base (byte ∷ bytes) number low is = elim (cases_Bool (is_digit byte base)) [
  | inl digit ↦
      let value : value_of base (byte ∷ []) ≡ 0 * base + digit_value byte =
      rw (digit_no_mark base byte low digit) refl in
      let read =
      read_on base (byte ∷ []) bytes number low (AreDigits.one byte digit)
      (digit_first base no_digits byte bytes number _ digit value is) in
      (read.are, read.written)
  | inr other ↦ absurd (false≢true (mark_first base no_digits byte bytes number other is).0)
]

-- ---- digits are read

then_append : (base : ℕ) (read : Digits) (bytes more : List ℕ) (middle end : Digits)
    → with_bytes base read bytes ≡ Some middle
    → with_bytes base middle more ≡ Some end → with_bytes base read (bytes ++ more) ≡ Some end
then_append base read [] more middle end one two =
    subst (λ (d : Digits). with_bytes base d more ≡ Some end) (sym (same_some read middle one)) two
then_append base read (byte ∷ bytes) more middle end one two =
    let first = stepped (with_byte base read byte) (λ (next : Digits). with_bytes base next bytes) middle one in
    step_to (with_byte base read byte) (λ (next : Digits). with_bytes base next (bytes ++ more)) first.0 end first.1
    (then_append base first.0 bytes more middle end first.2 two)

follow_to : (number base digit : ℕ) → number * base + digit < 2 ^ 64
    → followed_by number base digit ≡ Some (number * base + digit)
unfolding followed_by
follow_to number base digit fits = test_to _ _ (grind (arith, nat_tests, fits))

digit_to : (base : ℕ) (read : Digits) (byte value : ℕ) → is_digit byte base ≡ true
    → value ≡ read.number * base + digit_value byte → value < 2 ^ 64
    → with_bytes base read (byte ∷ []) ≡ Some (record { number = value; is_complete = true })
digit_to base read byte value digit is fits =
    let next : followed_by read.number base (digit_value byte) ≡ Some value =
    follow_to read.number base (digit_value byte) (rw (← is) fits) ∙ ap (λ (n : ℕ). Some n) (sym is) in
    rw (digit, next) refl

mark_to : (base number byte value : ℕ) → base ≤ 16 → is_digit byte base ≡ true
    → value ≡ number * base + digit_value byte → value < 2 ^ 64
    → with_bytes base (record { number = number; is_complete = true }) (95 ∷ byte ∷ []) ≡ Some
    (record { number = value; is_complete = true })
mark_to base number byte value low digit is fits =
    rw (mark_no_digit base low)
    (digit_to base (record { number = number; is_complete = false }) byte value digit is fits)

-- the number of digits that fits is read
digits_to : {base : ℕ} {digits : List ℕ} → base ≤ 16 → 1 ≤ base → AreDigits base digits → value_of base digits < 2 ^ 64
    → with_bytes base no_digits digits ≡ Some (record { number = value_of base digits; is_complete = true })
digits_to {base} low some (AreDigits.one digit is) fits =
    digit_to base no_digits digit (value_of base (digit ∷ [])) is (rw (digit_no_mark base digit low is) refl) fits
digits_to {base} low some (AreDigits.more digits digit before is) fits =
    let value = value_digit base digit digits low is in
    let less : value_of base digits < 2 ^ 64 =
    omega (
      arith,
      fits,
      le-value_after base (value_of base digits) (digit ∷ []) some,
      value_after-append base 0 digits
          (digit ∷ []),
    ) in
    then_append base no_digits digits (digit ∷ []) _ _ (digits_to low some before less)
    (digit_to base (record { number = value_of base digits; is_complete = true }) digit _ is value fits)
digits_to {base} low some (AreDigits.spaced digits digit before is) fits =
    let value = value_spaced base digit digits low is in
    let less : value_of base digits < 2 ^ 64 =
    omega (
      arith,
      fits,
      le-value_after base (value_of base digits)
          (95 ∷ digit ∷ []) some,
      value_after-append base 0 digits (95 ∷ digit ∷ []),
    ) in
    then_append base no_digits digits (95 ∷ digit ∷ []) _ _ (digits_to low some before less)
    (mark_to base (value_of base digits) digit _ low is value fits)

pub to_digits : (base : ℕ) (bytes : List ℕ) → base ≤ 16 → 1 ≤ base → AreDigits base bytes → value_of base bytes < 2 ^ 64
    → digits_of base bytes ≡ Some (value_of base bytes)
unfolding digits_of
to_digits base bytes low some are fits =
    step_to (with_bytes base no_digits bytes) number_in _ _ (digits_to low some are fits) refl

-- ---- literals

bases : (letter base : ℕ) → base_of letter ≡ Some base → (base ≤ 16) × (1 ≤ base)
bases letter base is = elim (cases_Bool (letter == 120)) [
  | inl x ↦ let same : 16 ≡ base = same_some 16 base (rw x at is) in (omega (arith, same), omega (arith, same))
  | inr no_x ↦ elim (cases_Bool (letter == 111)) [
    | inl o ↦ let same : 8 ≡ base = same_some 8 base (rw (no_x, o) at is) in (omega (arith, same), omega (arith, same))
    | inr no_o ↦ elim (cases_Bool (letter == 98)) [
      | inl b ↦ let same : 2 ≡ base = same_some 2 base (rw (no_x, no_o, b) at is) in
          (omega (arith, same), omega (arith, same))
      | inr no_b ↦ absurd (nothing base (rw (no_x, no_o, no_b) at is))
    ]
  ]
]

other_than : (a b : ℕ) → a ≢ b → (a == b) ≡ false
other_than a b other =
    elim (cases_Bool (a == b)) [ inl same ↦ absurd (other (eqb-true a b same)) | inr differ ↦ differ ]

decimal_read : (first : ℕ) (others : List ℕ) (number : ℕ) → (first == 48) ≡ false
    → digits_of 10 (first ∷ others) ≡ Some number
    → IsDecimal number (first ∷ others)
decimal_read first others number other is =
    let read = digits_read 10 (first ∷ others) number (lit≤ tt) is in
    record {
      first = first;
      others = others;
      spelled = refl;
      no_zero = λ same. false≢true (sym other ∙ eq-eqb first 48 same);
      are_digits = read.0;
      written = read.1;
    }

based_read : (first letter : ℕ) (digits : List ℕ) (number : ℕ) → (first == 48) ≡ true
    → after_zero (letter ∷ digits) ≡ Some number
    → IsBased number (first ∷ letter ∷ digits)
based_read first letter digits number nought is =
    let base = stepped (base_of letter) (λ (base : ℕ). digits_of base digits) number is in
    let read = digits_read base.0 digits number (bases letter base.0 base.1).0 base.2 in
    record {
      letter = letter;
      base = base.0;
      digits = digits;
      spelled = ap (λ (b : ℕ). b ∷ letter ∷ digits) (eqb-true first 48 nought);
      based = base.1;
      are_digits = read.0;
      written = read.1;
    }

-- the number that is read is that of the literal
pub literal_read : (word : List ℕ) (number : ℕ) → literal_of word ≡ Some number → IsLiteral number word
unfolding literal_of digits_of
literal_read [] number is = absurd (nothing number is)
literal_read (first ∷ []) number is = elim (cases_Bool (first == 48)) [
  | inl nought ↦ inl (ap (λ (b : ℕ). b ∷ []) (eqb-true first 48 nought), sym (same_some 0 number (rw nought at is)))
  | inr other ↦ inr (inl (decimal_read first [] number other (rw other at is)))
]
literal_read (first ∷ letter ∷ digits) number is = elim (cases_Bool (first == 48)) [
  | inl nought ↦ inr (inr (based_read first letter digits number nought (rw nought at is)))
  | inr other ↦ inr (inl (decimal_read first (letter ∷ digits) number other (rw other at is)))
]

-- a literal whose number fits is read
pub to_literal : (word : List ℕ) (number : ℕ) → IsLiteral number word → number < 2 ^ 64 → literal_of word ≡ Some number
unfolding literal_of
to_literal word number (inl nought) fits = rw nought.0 (ap (λ (n : ℕ). Some n) (sym nought.1))
to_literal word number (inr (inl decimal)) fits =
    let no_zero : (decimal.first == 48) ≡ false = other_than decimal.first 48 decimal.no_zero in
    let digits : AreDigits 10 (decimal.first ∷ decimal.others) =
    subst (AreDigits 10) decimal.spelled decimal.are_digits in
    let value : number ≡ value_of 10 (decimal.first ∷ decimal.others) = decimal.written
    ∙ ap (value_of 10) decimal.spelled in
    rw (decimal.spelled, no_zero)
    (to_digits 10 (decimal.first ∷ decimal.others) (lit≤ tt) (lit≤ tt) digits (rw (← value) fits)
    ∙ ap (λ (n : ℕ). Some n) (sym value))
to_literal word number (inr (inr based)) fits =
    let range = bases based.letter based.base based.based in
    rw (based.spelled) (
    step_to (base_of based.letter) (λ (base : ℕ). digits_of base based.digits) based.base number based.based
    (to_digits based.base based.digits range.0 range.1 based.are_digits (rw (← based.written) fits)
    ∙ ap (λ (n : ℕ). Some n) (sym based.written)))
