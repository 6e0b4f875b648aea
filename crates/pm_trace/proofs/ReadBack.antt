-- Proof that a value that is printed is read back.
use Rattle.std.proofs.Common.{◌≡◌, ◌∙◌, ◌+◌, ◌*◌, ◌/◌, ◌%◌, ◌^◌, ◌<◌, ◌≤◌, ℕ, zero, suc, true, refl, ap, ap₂, add_assoc, sym, arith, lit<}
use Rattle.std.specs.Prelude.{Some, codes, slice_index, nat_lt}
use Rattle.std.specs.Char.{digit_value, is_digit}
use Rattle.std.specs.List.{list_all}
use Rattle.std.specs.Option.{option_and_then}
use Rattle.std.specs.Str.Parse.{digits_value, digits_value_after}
use Rattle.std.proofs.lemmas.Bool.Decides.{nat_tests}
use Rattle.std.proofs.lemmas.Nat.{mod-pow-add, pow-add}
use Rattle.std.proofs.Math.Nat.{mod-one, mod-lt, mod-eq_of_lt, pow-le-pow_right, mul_assoc, add-mul}
use Rattle.pm_trace.specs.Laws.{ValuesAreReadBack}
use Rattle.pm_trace.specs.Trace.{hex_digits}
use Rattle.pm_trace.specs.Values.{fitted, number_in, number_of, value_of}

-- the digit of a number below 16
abbrev digit_of : ℕ → ℕ
digit_of n = slice_index (codes "0123456789abcdef") n

-- what a digit is
record IsHex (n : ℕ) : Type 0 where
  digit : is_digit (digit_of n) 16 ≡ true
  value : digit_value (digit_of n) ≡ n

hex_digit : (n : ℕ) → n < 16 → IsHex n
hex_digit zero below = record { digit = refl; value = refl }
hex_digit (suc zero) below = record { digit = refl; value = refl }
hex_digit (suc (suc zero)) below = record { digit = refl; value = refl }
hex_digit (suc (suc (suc zero))) below = record { digit = refl; value = refl }
hex_digit (suc (suc (suc (suc zero)))) below = record { digit = refl; value = refl }
hex_digit (suc (suc (suc (suc (suc zero))))) below = record { digit = refl; value = refl }
hex_digit (suc (suc (suc (suc (suc (suc zero)))))) below = record { digit = refl; value = refl }
hex_digit (suc (suc (suc (suc (suc (suc (suc zero))))))) below = record { digit = refl; value = refl }
hex_digit (suc (suc (suc (suc (suc (suc (suc (suc zero)))))))) below = record { digit = refl; value = refl }
hex_digit (suc (suc (suc (suc (suc (suc (suc (suc (suc zero))))))))) below = record { digit = refl; value = refl }
hex_digit (suc (suc (suc (suc (suc (suc (suc (suc (suc (suc zero)))))))))) below = record { digit = refl; value = refl }
hex_digit (suc (suc (suc (suc (suc (suc (suc (suc (suc (suc (suc zero))))))))))) below =
    record { digit = refl; value = refl }
hex_digit (suc (suc (suc (suc (suc (suc (suc (suc (suc (suc (suc (suc zero)))))))))))) below =
    record { digit = refl; value = refl }
hex_digit (suc (suc (suc (suc (suc (suc (suc (suc (suc (suc (suc (suc (suc zero))))))))))))) below =
    record { digit = refl; value = refl }
hex_digit (suc (suc (suc (suc (suc (suc (suc (suc (suc (suc (suc (suc (suc (suc zero)))))))))))))) below =
    record { digit = refl; value = refl }
hex_digit (suc (suc (suc (suc (suc (suc (suc (suc (suc (suc (suc (suc (suc (suc (suc zero))))))))))))))) below =
    record { digit = refl; value = refl }
hex_digit (suc (suc (suc (suc (suc (suc (suc (suc (suc (suc (suc (suc (suc (suc (suc (suc n)))))))))))))))) below =
    absurd (omega (arith, below))

low_digit : (number n : ℕ) → IsHex (number / 2 ^ (4 * n) % 16)
low_digit number n = hex_digit _ (mod-lt (number / 2 ^ (4 * n)) (lit< tt))

-- each is a digit
all_digits : (count number : ℕ) → list_all (λ byte. is_digit byte 16) (hex_digits count number) ≡ true
all_digits zero number = refl
all_digits (suc n) number = rw (low_digit number n).digit (all_digits n number)

regroup : (a b c d : ℕ) → (a * 16 + b) * c + d ≡ a * (16 * c) + (b * c + d)
regroup a b c d = rw (add-mul (a * 16) b c, mul_assoc a 16 c, add_assoc (a * (16 * c)) (b * c) d) refl

-- one more digit
next : (n before number : ℕ)
    → (before * 16 + number / 2 ^ (4 * n) % 16) * 2 ^ (4 * n) + number % 2 ^ (4 * n)
    ≡ before * 2 ^ (4 + 4 * n) + number % 2 ^ (4 + 4 * n)
next n before number =
    let power : 2 ^ (4 + 4 * n) ≡ 16 * 2 ^ (4 * n) = pow-add 2 4 (4 * n) in
    let parts : number % 2 ^ (4 + 4 * n) ≡ number / 2 ^ (4 * n) % 16 * 2 ^ (4 * n) + number % 2 ^ (4 * n) =
    mod-pow-add number 4 (4 * n) in
    regroup before (number / 2 ^ (4 * n) % 16) (2 ^ (4 * n)) (number % 2 ^ (4 * n))
    ∙ ap₂ (λ (x y : ℕ). before * x + y) (sym power) (sym parts)

zero-mul-add : (c d : ℕ) → 0 * c + d ≡ d
zero-mul-add c d = grind arith

-- the digits after a number make it greater by so many bits, and add the low bits
digits_after : (count before number : ℕ)
    → digits_value_after 16 before (hex_digits count number) ≡ before * 2 ^ (4 * count) + number % 2 ^ (4 * count)
digits_after zero before number = let none : number % 1 ≡ 0 = mod-one number in rw none (grind arith)
digits_after (suc n) before number =
    let value = (low_digit number n).value in
    let rest = digits_after n (before * 16 + number / 2 ^ (4 * n) % 16) number in
    let sum : 4 * suc n ≡ 4 + 4 * n = omega arith in
    ap (λ (m : ℕ). digits_value_after 16 (before * 16 + m) (hex_digits n number)) value
    ∙ (rest ∙ (next n before number ∙ ap (λ (k : ℕ). before * 2 ^ k + number % 2 ^ k) (sym sum)))

-- the digits of a value that fits
digits_value-hex : (count number : ℕ) → number < 2 ^ (4 * count) → digits_value 16 (hex_digits count number) ≡ number
digits_value-hex count number fits = digits_after count 0 number
    ∙ (zero-mul-add (2 ^ (4 * count)) (number % 2 ^ (4 * count)) ∙ mod-eq_of_lt fits)

number_in-hex : (count number : ℕ) → 1 ≤ count → number < 2 ^ (4 * count)
    → number_in 16 (hex_digits count number) ≡ Some number
unfolding number_in
number_in-hex zero number some fits = absurd (omega (arith, some))
number_in-hex (suc n) number some fits =
    rw (all_digits (suc n) number) (ap (λ (m : ℕ). Some m) (digits_value-hex (suc n) number fits))

pub values_are_read_back : ValuesAreReadBack
unfolding value_of number_of
values_are_read_back word some fits =
    let count = (word.width + 3) / 4 in
    let one : 1 ≤ count = omega (arith, some) in
    let wide : word.width ≤ 4 * count = omega (arith) in
    let more : 2 ^ word.width ≤ 2 ^ (4 * count) = pow-le-pow_right (omega arith) wide in
    let read = number_in-hex count word.value one (omega (arith, fits, more)) in
    let below : nat_lt word.value (2 ^ word.width) ≡ true = grind (arith, nat_tests, fits) in
    ap (option_and_then (fitted word.width)) read ∙ rw below refl
