-- Numbers put side by side.
use Rattle.std.proofs.Common.{◌≡◌, ℕ, ◌+◌, ◌-◌, ◌*◌, ◌/◌, ◌%◌, ◌^◌, ◌<◌, ◌≤◌, bit_and, bit_or, arith, ap, sym, ◌∙◌, subst, ap₂}
use Rattle.std.proofs.lemmas.Nat.{pow_pos, pow-add, mul-add-lt, shl_whole, shl_below, or_shifted, or_block, mod_below, shr_split, and-not, and_comm, shr-shr, shr_below}
use Rattle.std.proofs.lemmas.Nat.Bits.{and_high}
use Rattle.std.proofs.Math.Nat.{pow-le-pow_right, add-mul, mul_assoc, mul_comm}
use Rattle.std.proofs.Math.Pow.{high_ones}
use Rattle.std.specs.Int.Bits.{or_zero_r}
use Rattle.pm_bits.proofs.Masks.{uncut}

-- two numbers side by side fit the sum of their widths
pub joined_fits : (j k h l : ℕ) → h < 2 ^ j → l < 2 ^ k → h * 2 ^ k + l < 2 ^ (j + k)
joined_fits j k h l high low =
    let place : h * 2 ^ k + l < 2 ^ k * 2 ^ j = mul-add-lt h (2 ^ k) l (2 ^ j) high low in
    let size : 2 ^ (j + k) ≡ 2 ^ j * 2 ^ k = pow-add 2 j k in
    grind arith

-- one number above another, as a shift and an or make it
pub joined : (j k h l : ℕ) → h < 2 ^ j → l < 2 ^ k → j + k ≤ 128 → bit_or (h * 2 ^ k % 2 ^ 128) l % 2 ^ (j + k) ≡ h * 2 ^ k + l
joined j k h l high low narrow =
    let up : h * 2 ^ k % 2 ^ 128 ≡ h * 2 ^ k = shl_whole h j k 128 high narrow in
    let both : bit_or (h * 2 ^ k % 2 ^ 128) l ≡ h * 2 ^ k + l = ap (λ (n : ℕ). bit_or n l) up ∙ or_shifted h k l low in
    ap (λ (n : ℕ). n % 2 ^ (j + k)) both ∙ uncut (j + k) (h * 2 ^ k + l) (joined_fits j k h l high low)

-- a number in three parts, with their powers of 2 multiplied out
pub regrouped : (h p low q r : ℕ) → (h * q + p) * r + low ≡ low + p * r + h * (r * q)
regrouped h p low q r =
    let spread : (h * q + p) * r ≡ h * q * r + p * r = add-mul (h * q) p r in
    let order : h * q * r ≡ h * (r * q) = mul_assoc h q r ∙ ap (λ (n : ℕ). h * n) (mul_comm q r) in
    omega (arith, spread, order)

-- some bits of a number cleared by a mask of ones
cleared : (lo k m v : ℕ) → m + 1 ≡ 2 ^ k → lo + k ≤ 128 → v < 2 ^ 128
    → bit_and v (2 ^ 128 - 1 - m * 2 ^ lo) ≡ v / 2 ^ lo / 2 ^ k * 2 ^ k * 2 ^ lo + v % 2 ^ lo
cleared lo k m v ones narrow fits =
    let mask : m ≡ 2 ^ k - 1 = omega arith in
    let place : m * 2 ^ lo ≡ 2 ^ (k + lo) - 2 ^ lo = ap (λ (n : ℕ). n * 2 ^ lo) mask ∙ sym (high_ones k lo) in
    let inside : m * 2 ^ lo < 2 ^ (k + lo) = shl_below m k lo (omega arith) in
    let most : k + lo ≤ 128 = omega arith in
    let wide : 2 ^ (k + lo) ≤ 2 ^ 128 = pow-le-pow_right {n = 2} (omega arith) most in
    let apart : bit_and (2 ^ 128 - 1 - m * 2 ^ lo) v + bit_and (m * 2 ^ lo) v ≡ v = and-not 128 (m * 2 ^ lo) v (omega arith) fits in
    let held : bit_and (m * 2 ^ lo) v ≡ v / 2 ^ lo % 2 ^ k * 2 ^ lo =
    and_comm (m * 2 ^ lo) v ∙ ap (bit_and v) place ∙ and_high v k lo in
    let turned : bit_and v (2 ^ 128 - 1 - m * 2 ^ lo) ≡ bit_and (2 ^ 128 - 1 - m * 2 ^ lo) v = and_comm v (2 ^ 128 - 1 - m * 2 ^ lo) in
    let split : v / 2 ^ lo * 2 ^ lo + v % 2 ^ lo ≡ v = shr_split v lo in
    let again : v / 2 ^ lo / 2 ^ k * 2 ^ k + v / 2 ^ lo % 2 ^ k ≡ v / 2 ^ lo = shr_split (v / 2 ^ lo) k in
    let spread : v / 2 ^ lo * 2 ^ lo ≡ v / 2 ^ lo / 2 ^ k * 2 ^ k * 2 ^ lo + v / 2 ^ lo % 2 ^ k * 2 ^ lo =
    ap (λ (n : ℕ). n * 2 ^ lo) (sym again) ∙ add-mul (v / 2 ^ lo / 2 ^ k * 2 ^ k) (v / 2 ^ lo % 2 ^ k) (2 ^ lo) in
    omega (arith, apart, held, turned, split, spread)

-- some bits of a number cleared and then filled again, as masks and shifts do it
pub replaced : (w lo k m v p : ℕ) → m + 1 ≡ 2 ^ k → lo + k ≤ w → w ≤ 128 → v < 2 ^ w → p < 2 ^ k
    → bit_or (bit_and v (2 ^ 128 - 1 - m * 2 ^ lo % 2 ^ 128)) (p * 2 ^ lo % 2 ^ 128) % 2 ^ w
    ≡ v % 2 ^ lo + p * 2 ^ lo + v / 2 ^ (lo + k) * 2 ^ (lo + k)
replaced w lo k m v p ones within narrow fits part =
    let wide : 2 ^ w ≤ 2 ^ 128 = pow-le-pow_right {n = 2} (omega arith) narrow in
    let mask : m * 2 ^ lo % 2 ^ 128 ≡ m * 2 ^ lo = shl_whole m k lo 128 (omega arith) (omega arith) in
    let up : p * 2 ^ lo % 2 ^ 128 ≡ p * 2 ^ lo + 0 = shl_whole p k lo 128 part (omega arith) ∙ omega arith in
    let high : ℕ = v / 2 ^ lo / 2 ^ k in
    let low : ℕ = v % 2 ^ lo in
    let low_fits : low < 2 ^ lo = mod_below v (2 ^ lo) (pow_pos lo) in
    let clear : bit_and v (2 ^ 128 - 1 - m * 2 ^ lo % 2 ^ 128) ≡ high * 2 ^ k * 2 ^ lo + low =
    ap (λ (n : ℕ). bit_and v (2 ^ 128 - 1 - n)) mask ∙ cleared lo k m v ones (omega arith) (omega arith) in
    let fill : bit_or (bit_and v (2 ^ 128 - 1 - m * 2 ^ lo % 2 ^ 128)) (p * 2 ^ lo % 2 ^ 128) ≡ (high * 2 ^ k + p) * 2 ^ lo + low =
    ap₂ bit_or clear up
    ∙ or_block lo (high * 2 ^ k) p low 0 low_fits (pow_pos lo)
    ∙ ap₂ (λ (a b : ℕ). a * 2 ^ lo + b) (or_shifted high k p part) (or_zero_r low) in
    let whole : (w - lo - k + k) + lo ≡ w = omega arith in
    let v_fits : v < 2 ^ ((w - lo - k + k) + lo) = subst (λ (n : ℕ). v < 2 ^ n) (sym whole) fits in
    let high_fits : high < 2 ^ (w - lo - k) = shr_below (v / 2 ^ lo) (w - lo - k) k (shr_below v (w - lo - k + k) lo v_fits) in
    let all_fits : (high * 2 ^ k + p) * 2 ^ lo + low < 2 ^ w =
    subst (λ (n : ℕ). (high * 2 ^ k + p) * 2 ^ lo + low < 2 ^ n) whole
    (joined_fits (w - lo - k + k) lo (high * 2 ^ k + p) low (joined_fits (w - lo - k) k high p high_fits part) low_fits) in
    let top : high ≡ v / 2 ^ (lo + k) = shr-shr v lo k in
    let place : 2 ^ lo * 2 ^ k ≡ 2 ^ (lo + k) = sym (pow-add 2 lo k) in
    ap (λ (n : ℕ). n % 2 ^ w) fill
    ∙ uncut w ((high * 2 ^ k + p) * 2 ^ lo + low) all_fits
    ∙ regrouped high p low (2 ^ k) (2 ^ lo)
    ∙ ap₂ (λ (a b : ℕ). low + p * 2 ^ lo + a * b) top place
