-- Quotients and remainders by a negative divisor, which turn the sign of both operands.
use Rattle.std.proofs.Common.{◌≡◌, zero, suc, refl, arith, false}
use Rattle.std.proofs.lemmas.Int.{ints}
use Rattle.std.specs.Prelude.{ℤ, pos, negsuc, neg_ℤ, ◌-ℤ◌, FitsSigned, int_lt}
use Rattle.std.specs.Int.{w64, w128, cast_signed, cast_unsigned, int_div_euclid, int_rem_euclid, IsNonNegative}
use Rattle.pm_values.specs.Integers.{in_range, quotient, remainder}

-- the number of 64 bits, as 128 bits hold it
abbrev pub wide : ℤ → ℤ
wide a = cast_signed w128 (cast_unsigned w128 (cast_signed w64 (cast_unsigned w64 a)))

pub turned : (a : ℤ) → FitsSigned w64 a → cast_signed w128 (cast_unsigned w128 (pos 0 -ℤ wide a)) ≡ neg_ℤ a
turned a fits = omega (arith, ints)

pub minus : (a : ℤ) → FitsSigned w128 a → pos 0 -ℤ a ≡ neg_ℤ a
minus a fits = omega (arith, ints)

pub not_above : (b : ℤ) → FitsSigned w64 b → int_lt (pos 0) (wide b) ≡ false → int_lt (pos 0) b ≡ false
not_above b fits is = grind (arith, ints)

pub quotient_below : (a b : ℤ) → int_lt (pos 0) b ≡ false → (cast_unsigned w64 b ≡ 0 → ⊥) → quotient a b ≡ in_range (int_div_euclid (neg_ℤ a) (neg_ℤ b))
unfolding quotient
quotient_below a (pos zero) is some = absurd (some refl)
quotient_below a (pos (suc n)) is some = absurd (grind (arith, is))
quotient_below a (negsuc n) is some = refl

pub remainder_below : (a b : ℤ) → int_lt (pos 0) b ≡ false → (cast_unsigned w64 b ≡ 0 → ⊥) → remainder a b ≡ in_range (neg_ℤ (int_rem_euclid (neg_ℤ a) (neg_ℤ b)))
unfolding remainder
remainder_below a (pos zero) is some = absurd (some refl)
remainder_below a (pos (suc n)) is some = absurd (grind (arith, is))
remainder_below a (negsuc n) is some = refl

-- the same of a number of 128 bits that isn't negative
pub turned_wide : (r : ℤ) → FitsSigned w128 r → IsNonNegative r → cast_signed w128 (cast_unsigned w128 (pos 0 -ℤ cast_signed w128 (cast_unsigned w128 r))) ≡ neg_ℤ r
turned_wide (pos n) fits low = omega (arith, ints, fits.sfits)
turned_wide (negsuc n) fits low = absurd low
