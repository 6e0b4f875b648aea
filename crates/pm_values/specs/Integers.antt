-- Integers of 64 bits, and Python's operators on them. An operator has no value where its result doesn't fit 64 bits, at
-- a divisor of 0, at a negative exponent, and at a shift amount outside 0 to 63.
use Rattle.std.specs.Prelude.{ℕ, ◌≤◌, ◌^◌, ◌%◌, ◌+◌, ℤ, pos, negsuc, suc, ◌+ℤ◌, ◌-ℤ◌, ◌*ℤ◌, neg_ℤ, int_lt, int_le, Bool, false, not, ◌&&◌, if◌then◌else◌, nat_lt, nat_le, nat_eq, Option, Some, None}
use Rattle.std.specs.List.{find, range_with_len}
use Rattle.std.specs.Int.{w64, int_div_euclid, int_rem_euclid, int_pow, int_bit_and, int_bit_or, int_bit_xor}
use Rattle.pm_syn.specs.declared.expression.BinaryOp.{BinaryOp}
use Rattle.pm_syn.specs.declared.expression.BinaryOp.TheVariants as op
use Rattle.pm_syn.specs.declared.expression.UnaryOp.{UnaryOp}
use Rattle.pm_syn.specs.declared.expression.UnaryOp.TheVariants as unary

-- the integer fits 64 bits
abbrev pub fits : ℤ → Bool
fits (pos n) = nat_lt n (2 ^ 63)
fits (negsuc n) = nat_lt n (2 ^ 63)

-- the integer, if it fits 64 bits
unfoldable pub in_range : ℤ → Option ℤ
in_range z = if fits z then Some z else None

-- the integers are one integer
abbrev pub equal : ℤ → ℤ → Bool
equal a b = int_le a b && int_le b a

-- the integer is 0
abbrev pub is_zero : ℤ → Bool
is_zero (pos n) = nat_eq n 0
is_zero (negsuc n) = false

-- 1 for true and 0 for false
abbrev pub truth : Bool → ℤ
truth b = if b then pos 1 else pos 0

-- ---- arithmetic

-- the sum
abbrev pub sum : ℤ → ℤ → Option ℤ
sum a b = in_range (a +ℤ b)

-- the difference
abbrev pub difference : ℤ → ℤ → Option ℤ
difference a b = in_range (a -ℤ b)

-- the product
abbrev pub product : ℤ → ℤ → Option ℤ
product a b = in_range (a *ℤ b)

-- the number with its sign turned
abbrev pub negative : ℤ → Option ℤ
negative a = in_range (neg_ℤ a)

-- the quotient rounded down: a negative divisor is that of both turned
abbrev pub floor_quotient : ℤ → ℤ → ℤ
floor_quotient a (pos b) = int_div_euclid a (pos b)
floor_quotient a (negsuc b) = int_div_euclid (neg_ℤ a) (pos (suc b))

-- what is left of a quotient rounded down
abbrev pub floor_remainder : ℤ → ℤ → ℤ
floor_remainder a (pos b) = int_rem_euclid a (pos b)
floor_remainder a (negsuc b) = neg_ℤ (int_rem_euclid (neg_ℤ a) (pos (suc b)))

-- `a // b`
unfoldable pub quotient : ℤ → ℤ → Option ℤ
quotient a b = if is_zero b then None else in_range (floor_quotient a b)

-- `a % b`
unfoldable pub remainder : ℤ → ℤ → Option ℤ
remainder a b = if is_zero b then None else in_range (floor_remainder a b)

-- `a ** b`
unfoldable pub power : ℤ → ℤ → Option ℤ
power a (pos n) = in_range (int_pow a n)
power a (negsuc n) = None

-- ---- bits of two's complement

-- `a << b` is the product with a power of 2
unfoldable pub shifted_left : ℤ → ℤ → Option ℤ
shifted_left a (pos n) = if nat_le n 63 then in_range (a *ℤ pos (2 ^ n)) else None
shifted_left a (negsuc n) = None

-- `a >> b` is the quotient by a power of 2
unfoldable pub shifted_right : ℤ → ℤ → Option ℤ
shifted_right a (pos n) = if nat_le n 63 then Some (floor_quotient a (pos (2 ^ n))) else None
shifted_right a (negsuc n) = None

-- ---- all operators

-- the result by the operator
abbrev pub operated_by : BinaryOp → ℤ → ℤ → Option ℤ
operated_by op.Or a b = Some (if is_zero a then b else a)
operated_by op.And a b = Some (if is_zero a then a else b)
operated_by op.Eq a b = Some (truth (equal a b))
operated_by op.Ne a b = Some (truth (not (equal a b)))
operated_by op.Lt a b = Some (truth (int_lt a b))
operated_by op.Le a b = Some (truth (int_le a b))
operated_by op.Gt a b = Some (truth (int_lt b a))
operated_by op.Ge a b = Some (truth (int_le b a))
operated_by op.BitOr a b = Some (int_bit_or w64 a b)
operated_by op.BitXor a b = Some (int_bit_xor w64 a b)
operated_by op.BitAnd a b = Some (int_bit_and w64 a b)
operated_by op.Shl a b = shifted_left a b
operated_by op.Shr a b = shifted_right a b
operated_by op.Add a b = sum a b
operated_by op.Sub a b = difference a b
operated_by op.Mul a b = product a b
operated_by op.FloorDiv a b = quotient a b
operated_by op.Mod a b = remainder a b
operated_by op.Pow a b = power a b

-- the result of an operator between two integers
unfoldable pub operated : BinaryOp → ℤ → ℤ → Option ℤ
operated = operated_by

-- the result by the operator
abbrev pub applied_by : UnaryOp → ℤ → Option ℤ
applied_by unary.Minus a = negative a
applied_by unary.Plus a = Some a
applied_by unary.Invert a = Some (neg_ℤ a -ℤ pos 1)
applied_by unary.Not a = Some (truth (is_zero a))

-- the result of an operator before an integer
unfoldable pub applied : UnaryOp → ℤ → Option ℤ
applied = applied_by

-- ---- amounts and exponents

-- a shift amount of 0 to 63
abbrev pub shift_amount : ℤ → Option ℕ
shift_amount (pos n) = if nat_le n 63 then Some n else None
shift_amount (negsuc n) = None

-- of exponents over 64, whether they are even or odd
abbrev pub least_exponent : ℤ → Option ℕ
least_exponent (pos n) = Some (if nat_le n 64 then n else 64 + n % 2)
least_exponent (negsuc n) = None

-- ---- logarithms

-- the least k whose power of 2 is at least n, for n of at least 1: the first that is found among 0 to 63
unfoldable pub ceiling_log : ℤ → Option ℕ
ceiling_log (pos n) = if nat_eq n 0 then None else find (λ k. nat_le n (2 ^ k)) (range_with_len 0 64)
ceiling_log (negsuc n) = None

-- k is the least number whose power of 2 is at least n
pub record IsCeilingLog (n k : ℕ) : Type 0 where
  pub reaches : n ≤ 2 ^ k
  pub least : (j : ℕ) → n ≤ 2 ^ j → k ≤ j
