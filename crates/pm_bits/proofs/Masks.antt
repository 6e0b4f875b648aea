-- What a mask of low bits leaves of a number.
use Rattle.std.proofs.Common.{◌≡◌, ℕ, ◌+◌, ◌-◌, ◌*◌, ◌/◌, ◌%◌, ◌^◌, ◌<◌, ◌≤◌, bit_and, bit_or, arith, ap, ◌∙◌, subst}
use Rattle.std.specs.Prelude.{bit_xor}
use Rattle.std.proofs.lemmas.Nat.{pow_pos, and_mask, and_le_l, or_lt, xor_lt}
use Rattle.std.proofs.lemmas.Nat.Bits.{ones_shr}
use Rattle.std.proofs.Math.Nat.{mod-eq_of_lt, add-mul-mod_self_right, pow-le-pow_right}
use Rattle.std.proofs.Math.Pow.{mod-mod-pow, high_ones, not_mod}

-- the mask of a width, shifted down from all ones
pub ones_of_width : (w : ℕ) → w ≤ 128 → (2 ^ 128 - 1) / 2 ^ (128 - w) + 1 ≡ 2 ^ w
ones_of_width w narrow =
    let shifted : (2 ^ 128 - 1) / 2 ^ (128 - w) ≡ 2 ^ (128 - (128 - w)) - 1 = ones_shr 128 (128 - w) (omega arith) in
    let back : 128 - (128 - w) ≡ w = omega arith in
    let exact : 2 ^ (128 - (128 - w)) ≡ 2 ^ w = ap (λ (k : ℕ). 2 ^ k) back in
    omega (arith, pow_pos w)

-- a mask keeps the low bits
pub masked : (n m w : ℕ) → m + 1 ≡ 2 ^ w → bit_and n m ≡ n % 2 ^ w
masked n m w ones =
    let mask : m ≡ 2 ^ w - 1 = omega arith in
    ap (bit_and n) mask ∙ and_mask n w

-- cutting a number to 128 bits first changes nothing
pub cut_again : (w s : ℕ) → w ≤ 128 → s % 2 ^ 128 % 2 ^ w ≡ s % 2 ^ w
cut_again w s narrow =
    let whole : (128 - w) + w ≡ 128 = omega arith in
    subst (λ (k : ℕ). s % 2 ^ k % 2 ^ w ≡ s % 2 ^ w) whole (mod-mod-pow s (128 - w) w)

-- a number that fits is not cut
pub uncut : (w n : ℕ) → n < 2 ^ w → n % 2 ^ w ≡ n
uncut w n fits = mod-eq_of_lt fits

-- a number that fits a width fits a greater one
pub fits_wider : (w n v : ℕ) → w ≤ n → v < 2 ^ w → v < 2 ^ n
fits_wider w n v wider fits =
    let more : 2 ^ w ≤ 2 ^ n = pow-le-pow_right {n = 2} (omega arith) wider in
    omega arith

-- the bits that are in both of two numbers fit if one number fits
pub and_uncut : (w a b : ℕ) → a < 2 ^ w → bit_and a b % 2 ^ w ≡ bit_and a b
and_uncut w a b fits = uncut w (bit_and a b) (omega (arith, and_le_l a b))

-- the bits that are in at least one of two numbers fit if both numbers fit
pub or_uncut : (w a b : ℕ) → a < 2 ^ w → b < 2 ^ w → bit_or a b % 2 ^ w ≡ bit_or a b
or_uncut w a b first second = uncut w (bit_or a b) (or_lt w a b first second)

-- the bits that are in exactly one of two numbers fit if both numbers fit
pub xor_uncut : (w a b : ℕ) → a < 2 ^ w → b < 2 ^ w → bit_xor a b % 2 ^ w ≡ bit_xor a b
xor_uncut w a b first second = uncut w (bit_xor a b) (xor_lt w a b first second)

-- a difference that wraps at 128 bits wraps at fewer
pub cut_difference : (w a b : ℕ) → w ≤ 128 → b ≤ 2 ^ w → (a + (2 ^ 128 - b)) % 2 ^ 128 % 2 ^ w ≡ (a + 2 ^ w - b) % 2 ^ w
cut_difference w a b narrow fits =
    let whole : (128 - w) + w ≡ 128 = omega arith in
    let blocks : 2 ^ 128 - 2 ^ w ≡ (2 ^ (128 - w) - 1) * 2 ^ w =
    subst (λ (k : ℕ). 2 ^ k - 2 ^ w ≡ (2 ^ (128 - w) - 1) * 2 ^ w) whole (high_ones (128 - w) w) in
    let below : 2 ^ w ≤ 2 ^ 128 = pow-le-pow_right {n = 2} (omega arith) narrow in
    let apart : a + (2 ^ 128 - b) ≡ (a + 2 ^ w - b) + (2 ^ (128 - w) - 1) * 2 ^ w = omega arith in
    cut_again w (a + (2 ^ 128 - b)) narrow
    ∙ ap (λ (n : ℕ). n % 2 ^ w) apart
    ∙ add-mul-mod_self_right (a + 2 ^ w - b) (2 ^ (128 - w) - 1) (2 ^ w)

-- the low bits of a complement at 128 bits
pub cut_complement : (w v : ℕ) → w ≤ 128 → v < 2 ^ w → (2 ^ 128 - 1 - v) % 2 ^ w ≡ 2 ^ w - 1 - v
cut_complement w v narrow fits =
    let whole : (128 - w) + w ≡ 128 = omega arith in
    subst (λ (k : ℕ). (2 ^ k - 1 - v) % 2 ^ w ≡ 2 ^ w - 1 - v) whole (not_mod (128 - w) w fits)
