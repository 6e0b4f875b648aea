-- What the operators of integers have to do with each other.
use Rattle.std.specs.Prelude.{◌≡◌, ℕ, ◌-◌, ◌/◌, ◌%◌, ◌^◌, max, min, ◌+◌, ℤ, pos, negsuc, suc, ◌+ℤ◌, ◌*ℤ◌, ◌<ℤ◌, ◌≤ℤ◌, false, FitsSigned, ◌<◌}
use Rattle.std.specs.Int.{w64, int_pow, int_bit_and, int_bit_or, int_bit_xor}
use Rattle.pm_values.specs.Integers.{is_zero, floor_quotient, floor_remainder}

-- `a` is `(a // b) * b + a % b`
abbrev pub QuotientAndRemainder : Type 0
QuotientAndRemainder = (a b : ℤ) → is_zero b ≡ false → a ≡ floor_quotient a b *ℤ b +ℤ floor_remainder a b

-- `a % b` is 0 or has the sign of b, and is smaller than b in size: above 0 it is at least 0 and below b
abbrev pub RemainderByPositive : Type 0
RemainderByPositive = (a b : ℤ) → pos 0 <ℤ b → (pos 0 ≤ℤ floor_remainder a b) × (floor_remainder a b <ℤ b)

-- and below 0 it is at most 0 and above b
abbrev pub RemainderByNegative : Type 0
RemainderByNegative = (a b : ℤ) → b <ℤ pos 0 → (b <ℤ floor_remainder a b) × (floor_remainder a b ≤ℤ pos 0)

-- `a ** 0` is 1, and `a ** (n + 1)` is `a ** n * a`
abbrev pub PowerIsProduct : Type 0
PowerIsProduct = (a : ℤ) → (int_pow a 0 ≡ pos 1) × ((n : ℕ) → int_pow a (suc n) ≡ int_pow a n *ℤ a)

-- bit i of two's complement, where bits of the sign go on without end
abbrev pub bit_of : ℤ → ℕ → ℕ
bit_of (pos n) i = n / 2 ^ i % 2
bit_of (negsuc n) i = 1 - n / 2 ^ i % 2

-- bits of `a & b` are the lower bits
abbrev pub BitsOfAnd : Type 0
BitsOfAnd = (a b : ℤ) (i : ℕ) → FitsSigned w64 a → FitsSigned w64 b → i < 64 → bit_of (int_bit_and w64 a b) i ≡ min (bit_of a i) (bit_of b i)

-- bits of `a | b` are the greater bits
abbrev pub BitsOfOr : Type 0
BitsOfOr = (a b : ℤ) (i : ℕ) → FitsSigned w64 a → FitsSigned w64 b → i < 64 → bit_of (int_bit_or w64 a b) i ≡ max (bit_of a i) (bit_of b i)

-- bits of `a ^ b` are the sums modulo 2
abbrev pub BitsOfXor : Type 0
BitsOfXor = (a b : ℤ) (i : ℕ) → FitsSigned w64 a → FitsSigned w64 b → i < 64 → bit_of (int_bit_xor w64 a b) i ≡ (bit_of a i + bit_of b i) % 2
