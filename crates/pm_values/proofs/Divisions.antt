-- Quotients that are rounded down, and their remainders.
use Rattle.std.proofs.Common.{◌≡◌, ℕ, zero, suc, arith}
use Rattle.std.proofs.lemmas.Int.{ints}
use Rattle.std.proofs.Math.Nat.{div-add-mod, mod-lt}
use Rattle.std.specs.Prelude.{ℤ, pos, negsuc, neg_ℤ, ◌+ℤ◌, ◌*ℤ◌, ◌<ℤ◌, ◌≤ℤ◌}
use Rattle.std.specs.Int.{int_div_euclid, int_rem_euclid}
use Rattle.pm_values.specs.IntegerLaws.{QuotientAndRemainder, RemainderByPositive, RemainderByNegative}

-- by a divisor above 0
by_positive : (a : ℤ) (n : ℕ) → a ≡ int_div_euclid a (pos (suc n)) *ℤ pos (suc n) +ℤ int_rem_euclid a (pos (suc n))
by_positive (pos m) n = omega (arith, ints, div-add-mod m (suc n))
by_positive (negsuc m) n = omega (arith, ints, div-add-mod m (suc n), mod-lt m {m = suc n} (omega arith))

-- with both signs turned
by_turned : (a q r : ℤ) (n : ℕ) → neg_ℤ a ≡ q *ℤ pos (suc n) +ℤ r → a ≡ q *ℤ negsuc n +ℤ neg_ℤ r
by_turned a q r n is = omega (arith, ints, is)

pub quotient_and_remainder : QuotientAndRemainder
quotient_and_remainder a (pos zero) some = absurd cc
quotient_and_remainder a (pos (suc n)) some = by_positive a n
quotient_and_remainder a (negsuc n) some = by_turned a (int_div_euclid (neg_ℤ a) (pos (suc n))) (int_rem_euclid (neg_ℤ a) (pos (suc n))) n (by_positive (neg_ℤ a) n)

least : (a : ℤ) (n : ℕ) → pos 0 ≤ℤ int_rem_euclid a (pos (suc n))
least (pos m) n = omega (arith, ints)
least (negsuc m) n = omega (arith, ints)

smaller : (a : ℤ) (n : ℕ) → int_rem_euclid a (pos (suc n)) <ℤ pos (suc n)
smaller (pos m) n = omega (arith, ints, mod-lt m {m = suc n} (omega arith))
smaller (negsuc m) n = omega (arith, ints)

pub remainder_by_positive : RemainderByPositive
remainder_by_positive a (pos zero) above = absurd (omega (arith, ints, above))
remainder_by_positive a (pos (suc n)) above = (least a n, smaller a n)
remainder_by_positive a (negsuc n) above = absurd (omega (arith, ints, above))

turned_above : (r : ℤ) (n : ℕ) → r <ℤ pos (suc n) → negsuc n <ℤ neg_ℤ r
turned_above r n h = omega (arith, ints, h)

turned_below : (r : ℤ) → pos 0 ≤ℤ r → neg_ℤ r ≤ℤ pos 0
turned_below r h = omega (arith, ints, h)

pub remainder_by_negative : RemainderByNegative
remainder_by_negative a (pos n) below = absurd (omega (arith, ints, below))
remainder_by_negative a (negsuc n) below =
    (turned_above (int_rem_euclid (neg_ℤ a) (pos (suc n))) n (smaller (neg_ℤ a) n), turned_below (int_rem_euclid (neg_ℤ a) (pos (suc n))) (least (neg_ℤ a) n))
