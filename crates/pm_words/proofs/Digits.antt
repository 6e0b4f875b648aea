-- Digits and the number that they write.
use Rattle.std.proofs.Common.{ℕ, ◌+◌, ◌*◌, ◌≤◌, ◌==◌, List, [], ◌∷◌, arith, le_refl, le_trans, mul-le-mul_left}
use Rattle.std.specs.Char.{digit_value}
use Rattle.std.specs.Str.Parse.{digits_value_after}
use Rattle.std.proofs.lemmas.Bool.{cases_Bool}
use Rattle.std.proofs.Common.{inl, inr}
use Rattle.pm_syn.specs.Numbers.{value_after}

-- more digits only make the number greater
pub le-digits_value_after : (radix n : ℕ) (digits : List ℕ) → 1 ≤ radix → n ≤ digits_value_after radix n digits
le-digits_value_after radix n [] positive = le_refl n
le-digits_value_after radix n (digit ∷ digits) positive =
    let step : n ≤ n * radix + digit_value digit = omega (arith, mul-le-mul_left n positive) in
    le_trans step (le-digits_value_after radix (n * radix + digit_value digit) digits positive)

-- the same of digits with underscores
pub le-value_after : (base n : ℕ) (digits : List ℕ) → 1 ≤ base → n ≤ value_after base n digits
le-value_after base n [] positive = le_refl n
le-value_after base n (digit ∷ digits) positive =
    let step : n ≤ n * base + digit_value digit = omega (arith, mul-le-mul_left n positive) in
    elim (cases_Bool (digit == 95)) [
      | inl mark ↦ rw mark (le-value_after base n digits positive)
      | inr other ↦ rw other (le_trans step (le-value_after base (n * base + digit_value digit) digits positive))
    ]
