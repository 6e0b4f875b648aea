-- Bits of integers.
use Rattle.std.proofs.Common.{◌≡◌, ℕ, suc, ◌+◌, ◌-◌, ◌/◌, ◌%◌, ◌^◌, ◌<◌, min, max, refl, ap, ap₂, sym, ◌∙◌, arith, true, false, Bool}
use Rattle.std.proofs.lemmas.Nat.{and_le_l, or_lt, xor_lt}
use Rattle.std.proofs.lemmas.Nat.Bits.{bit_at_and, bit_at_or, bit_at_xor, bit_at_not, bit_at-lt}
use Rattle.std.specs.Prelude.{ℤ, pos, negsuc, FitsSigned, bit_and, bit_or, bit_xor, nat_lt}
use Rattle.std.specs.Int.{w64, cast_signed, cast_unsigned, bit_at}
use Rattle.pm_values.specs.IntegerLaws.{bit_of, BitsOfAnd, BitsOfOr, BitsOfXor}

-- a bit of the number as 64 bits hold it
stored : (z : ℤ) (i : ℕ) → FitsSigned w64 z → i < 64 → bit_at (cast_unsigned w64 z) i ≡ bit_of z i
stored (pos n) i fits below = refl
stored (negsuc n) i fits below =
    let same : 2 ^ 64 - suc n ≡ 2 ^ 64 - 1 - n = omega arith in
    ap (λ (k : ℕ). k / 2 ^ i % 2) same ∙ bit_at_not w64 n i (omega (arith, fits.sfits)) below

flipped : (x : ℕ) → x < 2 → x ≡ 1 - (1 - x)
flipped x h = omega (arith, h)

-- and of a number that 64 bits hold
read : (m i : ℕ) (b : Bool) → nat_lt m (2 ^ 63) ≡ b → m < 2 ^ 64 → i < 64 → bit_of (cast_signed w64 m) i ≡ bit_at m i
read m i true is fits below = let small : cast_signed w64 m ≡ pos m = rw is refl in ap (λ z. bit_of z i) small
read m i false is fits below =
    let large : cast_signed w64 m ≡ negsuc (2 ^ 64 - 1 - m) = rw is (ap negsuc (omega arith)) in
    ap (λ z. bit_of z i) large ∙ ap (λ (k : ℕ). 1 - k) (bit_at_not w64 m i fits below) ∙ sym (flipped (bit_at m i) (bit_at-lt m i))

held : (z : ℤ) → FitsSigned w64 z → cast_unsigned w64 z < 2 ^ 64
held (pos n) fits = omega (arith, fits.sfits)
held (negsuc n) fits = omega arith

pub bits_of_and : BitsOfAnd
bits_of_and a b i fa fb below =
    let m : ℕ = bit_and (cast_unsigned w64 a) (cast_unsigned w64 b) in
    read m i (nat_lt m (2 ^ 63)) refl (omega (arith, and_le_l (cast_unsigned w64 a) (cast_unsigned w64 b), held a fa)) below
    ∙ bit_at_and (cast_unsigned w64 a) (cast_unsigned w64 b) i ∙ ap₂ min (stored a i fa below) (stored b i fb below)

pub bits_of_or : BitsOfOr
bits_of_or a b i fa fb below =
    let m : ℕ = bit_or (cast_unsigned w64 a) (cast_unsigned w64 b) in
    read m i (nat_lt m (2 ^ 63)) refl (or_lt 64 (cast_unsigned w64 a) (cast_unsigned w64 b) (held a fa) (held b fb)) below
    ∙ bit_at_or (cast_unsigned w64 a) (cast_unsigned w64 b) i ∙ ap₂ max (stored a i fa below) (stored b i fb below)

pub bits_of_xor : BitsOfXor
bits_of_xor a b i fa fb below =
    let m : ℕ = bit_xor (cast_unsigned w64 a) (cast_unsigned w64 b) in
    read m i (nat_lt m (2 ^ 63)) refl (xor_lt 64 (cast_unsigned w64 a) (cast_unsigned w64 b) (held a fa) (held b fb)) below
    ∙ bit_at_xor (cast_unsigned w64 a) (cast_unsigned w64 b) i ∙ ap₂ (λ (x y : ℕ). (x + y) % 2) (stored a i fa below) (stored b i fb below)
