-- Powers, whose exponents over 64 matter only by whether they are even or odd.
use Rattle.std.proofs.Common.{◌≡◌, ℕ, zero, suc, ◌≤◌, ◌<◌, ◌+◌, ◌*◌, ◌%◌, ◌^◌, refl, ap, sym, ◌∙◌, arith, true, false, Bool}
use Rattle.std.proofs.Math.Nat.{pow-suc, pow-zero, pow-le-pow_left, pow-le-pow_right}
use Rattle.std.specs.Prelude.{ℤ, pos, negsuc, neg_ℤ, ◌*ℤ◌, Some, None, if◌then◌else◌, cond, nat_le, ◌==◌}
use Rattle.std.specs.Int.{int_pow}
use Rattle.pm_values.specs.Integers.{fits, in_range, least_exponent, power}
use Rattle.pm_values.specs.IntegerLaws.{PowerIsProduct}
use Rattle.std.proofs.lemmas.Int.{ints}

zero-pow : (n : ℕ) → 0 < n → 0 ^ n ≡ 0
zero-pow zero some = absurd (omega (arith, some))
zero-pow (suc n) some = rw (pow-suc 0 n) (omega arith)

one-pow : (n : ℕ) → 1 ^ n ≡ 1
one-pow zero = refl
one-pow (suc n) = rw (pow-suc 1 n) (omega (arith, one-pow n))

-- a power of 2 or more, of 64 or more
large : (a n : ℕ) → 2 ≤ a → 64 ≤ n → 2 ^ 64 ≤ a ^ n
large a n two many = omega (arith, pow-le-pow_left two 64, pow-le-pow_right {n = a} (omega (arith, two)) many)

none_by : (z : ℤ) → fits z ≡ false → in_range z ≡ None
unfolding in_range
none_by z is = ap (λ b. if b then Some z else None) is

none_above : (m : ℕ) → 2 ^ 64 ≤ m → in_range (pos m) ≡ None
none_above m h = none_by (pos m) (grind (arith, h))

none_below : (m : ℕ) → 2 ^ 64 ≤ m → in_range (neg_ℤ (pos m)) ≡ None
none_below zero h = absurd (omega (arith, h))
none_below (suc m) h = none_by (negsuc m) (grind (arith, h))

signed_none : (b : Bool) (m : ℕ) → 2 ^ 64 ≤ m → in_range (cond b (pos m) (neg_ℤ (pos m))) ≡ None
signed_none true m h = none_above m h
signed_none false m h = none_below m h

same_exponent : (a : ℤ) (n m : ℕ) → 64 ≤ n → 64 ≤ m → n % 2 ≡ m % 2 → in_range (int_pow a n) ≡ in_range (int_pow a m)
same_exponent (pos zero) n m hn hm same = ap (λ k. in_range (pos k)) (zero-pow n (omega (arith, hn)) ∙ sym (zero-pow m (omega (arith, hm))))
same_exponent (pos (suc zero)) n m hn hm same = ap (λ k. in_range (pos k)) (one-pow n ∙ sym (one-pow m))
same_exponent (pos (suc (suc a))) n m hn hm same =
    none_above (suc (suc a) ^ n) (large (suc (suc a)) n (omega arith) hn) ∙ sym (none_above (suc (suc a) ^ m) (large (suc (suc a)) m (omega arith) hm))
same_exponent (negsuc zero) n m hn hm same =
    ap (λ k. in_range (cond (n % 2 == 0) (pos k) (neg_ℤ (pos k)))) (one-pow n ∙ sym (one-pow m))
    ∙ ap (λ k. in_range (cond (k == 0) (pos (1 ^ m)) (neg_ℤ (pos (1 ^ m))))) same
same_exponent (negsuc (suc a)) n m hn hm same =
    signed_none (n % 2 == 0) (suc (suc a) ^ n) (large (suc (suc a)) n (omega arith) hn) ∙ sym (signed_none (m % 2 == 0) (suc (suc a) ^ m) (large (suc (suc a)) m (omega arith) hm))

least_by : (a : ℤ) (n m : ℕ) (b : Bool) → nat_le n 64 ≡ b → m ≡ (if b then n else 64 + n % 2) → in_range (int_pow a n) ≡ in_range (int_pow a m)
least_by a n m true is same = ap (λ k. in_range (int_pow a k)) (sym same)
least_by a n m false is same = same_exponent a n m (grind (arith, is)) (omega (arith, same)) (omega (arith, same))

pub power_least : (a b : ℤ) (m : ℕ) → Some m ≡ least_exponent b → power a b ≡ in_range (int_pow a m)
unfolding power
power_least a (pos n) m is = least_by a n m (nat_le n 64) refl cc
power_least a (negsuc n) m is = absurd cc

-- ---- powers as products

-- a product with a number below 0, of one above and of one below
above_times : (m a : ℕ) → neg_ℤ (pos (m * suc a)) ≡ pos m *ℤ negsuc a
above_times m a = omega (arith, ints)

below_times : (m a : ℕ) → pos (m * suc a) ≡ neg_ℤ (pos m) *ℤ negsuc a
below_times zero a = omega (arith, ints)
below_times (suc m) a = omega (arith, ints)

times_negative : (b : Bool) (m a : ℕ) → cond b (neg_ℤ (pos (m * suc a))) (pos (m * suc a)) ≡ cond b (pos m) (neg_ℤ (pos m)) *ℤ negsuc a
times_negative true m a = above_times m a
times_negative false m a = below_times m a

other_parity : (n : ℕ) (x y : ℤ) → cond (suc n % 2 == 0) x y ≡ cond (n % 2 == 0) y x
other_parity n x y = grind arith

pub power_is_product : PowerIsProduct
power_is_product (pos a) = (ap pos (pow-zero a), λ n. ap pos (pow-suc a n))
power_is_product (negsuc a) = (
  ap pos (pow-zero (suc a)),
  λ n. other_parity n (pos (suc a ^ suc n)) (neg_ℤ (pos (suc a ^ suc n)))
      ∙ ap (λ k. cond (n % 2 == 0) (neg_ℤ (pos k)) (pos k)) (pow-suc (suc a) n) ∙ times_negative (n % 2 == 0) (suc a ^ n) a,
)
