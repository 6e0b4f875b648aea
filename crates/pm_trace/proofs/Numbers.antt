-- Numbers of at most 128 bits are all that values need.
use Rattle.std.proofs.Common.{◌≡◌, ◌∙◌, ◌+◌, ◌*◌, ◌<◌, ◌≤◌, ◌^◌, ◌==◌, ℕ, Bool, true, false, List, [], ◌∷◌, refl, inl, inr, ap, arith, lit≤, le_refl, le_trans, mul-le-mul_left}
use Rattle.std.specs.Prelude.{Option, Some, None, ◌&&◌, nat_lt, if◌then◌else◌}
use Rattle.std.specs.Option.{option_and_then}
use Rattle.std.specs.Char.{digit_value, is_digit}
use Rattle.std.specs.List.{list_all}
use Rattle.std.specs.Str.Parse.{digits_value_after}
use Rattle.std.proofs.lemmas.Bool.{cases_Bool}
use Rattle.std.proofs.lemmas.Bool.Decides.{nat_tests}
use Rattle.std.proofs.Math.Nat.{pow-le-pow_right}
use Rattle.pm_trace.specs.Values.{fitted, value_of, number_in as any_in, number_of as any_of, number_after_zero as any_after_zero}
use Rattle.pm_trace.specs.Reading.{followed_by, number_after_zero, number_in, number_of, with_bytes}

le-digits_value_after : (radix n : ℕ) (digits : List ℕ) → 1 ≤ radix → n ≤ digits_value_after radix n digits
le-digits_value_after radix n [] positive = le_refl n
le-digits_value_after radix n (digit ∷ digits) positive =
    let step : n ≤ n * radix + digit_value digit = omega (arith, mul-le-mul_left n positive) in
    le_trans step (le-digits_value_after radix (n * radix + digit_value digit) digits positive)

none_by : (b : Bool) (n : ℕ) → None ≡ (if b && false then Some n else None)
none_by true n = refl
none_by false n = refl

-- the digits after a number
digits_agree : (base number : ℕ) (digits : List ℕ) → 1 ≤ base → number < 2 ^ 128
    → with_bytes base number digits
    ≡ (if list_all (λ byte. is_digit byte base) digits && nat_lt (digits_value_after base number digits) (2 ^ 128)
    then Some (digits_value_after base number digits) else None)
unfolding followed_by
digits_agree base number [] some fits =
    let below : nat_lt number (2 ^ 128) ≡ true = grind (arith, nat_tests, fits) in rw below refl
digits_agree base number (byte ∷ digits) some fits = elim (cases_Bool (is_digit byte base)) [
  | inl digit ↦ elim (cases_Bool (nat_lt (number * base + digit_value byte) (2 ^ 128))) [
    | inl below ↦
        let next : number * base + digit_value byte < 2 ^ 128 = grind (arith, nat_tests, below) in
        rw (digit, below) (digits_agree base (number * base + digit_value byte) digits some next)
    | inr past ↦
        let large : 2 ^ 128 ≤ number * base + digit_value byte = grind (arith, nat_tests, past) in
        let more = le-digits_value_after base (number * base + digit_value byte) digits some in
        let fails : nat_lt (digits_value_after base (number * base + digit_value byte) digits) (2 ^ 128) ≡ false =
        grind (arith, nat_tests, large, more) in
        rw (digit, past, fails) (none_by (list_all (λ byte. is_digit byte base) digits) _)
  ]
  | inr other ↦ rw other refl
]

-- a test and then another one
both : (first second : Bool) (n : ℕ)
    → (if first && second then Some n else None) ≡ (if first then (if second then Some n else None) else None)
both true second n = refl
both false second n = refl

-- the number if it has at most 128 bits
low : Option ℕ → Option ℕ
low number = option_and_then (λ n. if nat_lt n (2 ^ 128) then Some n else None) number

low_if : (test : Bool) (n : ℕ)
    → (if test then (if nat_lt n (2 ^ 128) then Some n else None) else None) ≡ low (if test then Some n else None)
unfolding low
low_if true n = refl
low_if false n = refl

in_agrees : (base : ℕ) (digits : List ℕ) → 1 ≤ base → number_in base digits ≡ low (any_in base digits)
unfolding number_in any_in low
in_agrees base [] some = refl
in_agrees base (byte ∷ digits) some =
    digits_agree base 0 (byte ∷ digits) some (grind arith) ∙ both (list_all (λ b. is_digit b base) (byte ∷ digits)) _ _
    ∙ low_if (list_all (λ b. is_digit b base) (byte ∷ digits)) _

zero_agrees : (others : List ℕ) → number_after_zero others ≡ low (any_after_zero others)
zero_agrees [] = in_agrees 10 (48 ∷ []) (lit≤ tt)
zero_agrees (letter ∷ digits) = elim (cases_Bool (letter == 120)) [
  | inl x ↦ rw x (in_agrees 16 digits (lit≤ tt))
  | inr no_x ↦ elim (cases_Bool (letter == 98)) [
    | inl b ↦ rw (no_x, b) (in_agrees 2 digits (lit≤ tt))
    | inr no_b ↦ rw (no_x, no_b) (in_agrees 10 (48 ∷ letter ∷ digits) (lit≤ tt))
  ]
]

of_agrees : (word : List ℕ) → number_of word ≡ low (any_of word)
unfolding number_of any_of
of_agrees [] = in_agrees 10 [] (lit≤ tt)
of_agrees (first ∷ others) = elim (cases_Bool (first == 48)) [
  | inl nought ↦ rw nought (zero_agrees others)
  | inr other ↦ rw other (in_agrees 10 (first ∷ others) (lit≤ tt))
]

low_fits : (width : ℕ) (number : Option ℕ) → width ≤ 128
    → option_and_then (fitted width) (low number) ≡ option_and_then (fitted width) number
unfolding low
low_fits width None narrow = refl
low_fits width (Some n) narrow = elim (cases_Bool (nat_lt n (2 ^ 128))) [
  | inl below ↦ rw below refl
  | inr past ↦
      let less : 2 ^ width ≤ 2 ^ 128 = pow-le-pow_right (omega arith) narrow in
      let fails : nat_lt n (2 ^ width) ≡ false = grind (arith, nat_tests, less, past) in
      rw (past, fails) refl
]

-- a value is read by its number
pub value_by_number : (width : ℕ) (word : List ℕ) → width ≤ 128
    → option_and_then (fitted width) (number_of word) ≡ value_of width word
unfolding value_of
value_by_number width word narrow = ap (option_and_then (fitted width)) (of_agrees word)
    ∙ low_fits width (any_of word) narrow
