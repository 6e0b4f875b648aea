-- Numbers in two's complement.
use Rattle.std.proofs.Common.{◌≡◌, ℕ, suc, ◌+◌, ◌-◌, ◌*◌, ◌/◌, ◌%◌, ◌^◌, ◌<◌, ◌≤◌, arith, ap, refl, ◌∙◌, subst, inl, inr}
use Rattle.std.specs.Prelude.{bit_and, bit_xor, nat_lt, if◌then◌else◌, ℤ, pos, negsuc, unsigned_abs, ◌<ℤ◌, ◌≤ℤ◌}
use Rattle.std.specs.Int.{int_rem_euclid}
use Rattle.std.specs.Int.Bits.{xor_add_and}
use Rattle.std.proofs.lemmas.Nat.{pow_pos, shr_high}
use Rattle.std.proofs.lemmas.Nat.Bits.{and_pow, bit_at_above}
use Rattle.std.proofs.lemmas.Int.{ints}
use Rattle.std.proofs.lemmas.Bool.Decides.{nat_tests}
use Rattle.std.proofs.lemmas.Bool.{cases_lt}
use Rattle.std.proofs.Math.Nat.{pow-suc, mod-eq_of_lt, pow-le-pow_right, add-mod_right}
use Rattle.pm_bits.specs.Word.{Word, word_of, word_of_int}
use Rattle.pm_bits.proofs.Masks.{cut_difference}

-- the sign bit is half of the width's numbers
pub twice_sign : (w : ℕ) → 1 ≤ w → 2 ^ w ≡ 2 ^ (w - 1) + 2 ^ (w - 1)
twice_sign w positive =
    let next : suc (w - 1) ≡ w = omega arith in
    let size : 2 ^ suc (w - 1) ≡ 2 ^ (w - 1) * 2 = pow-suc 2 (w - 1) in
    let whole : 2 ^ suc (w - 1) ≡ 2 ^ w = ap (λ (k : ℕ). 2 ^ k) next in
    omega arith

-- a bit that is not set is added
flipped_up : (k v : ℕ) → v < 2 ^ k → bit_xor v (2 ^ k) ≡ v + 2 ^ k
flipped_up k v low =
    let bit : bit_and v (2 ^ k) ≡ 0 * 2 ^ k = and_pow v k ∙ ap (λ (n : ℕ). n * 2 ^ k) (bit_at_above v k k low (omega arith)) in
    omega (arith, bit, xor_add_and v (2 ^ k))

-- a bit that is set is taken away
flipped_down : (k v : ℕ) → 2 ^ k ≤ v → v < 2 ^ k + 2 ^ k → bit_xor v (2 ^ k) + 2 ^ k ≡ v
flipped_down k v high low =
    let parts : v ≡ 1 * 2 ^ k + (v - 2 ^ k) = omega arith in
    let top : v / 2 ^ k ≡ 1 = ap (λ (n : ℕ). n / 2 ^ k) parts ∙ shr_high 1 k (v - 2 ^ k) (omega arith) in
    let bit : bit_and v (2 ^ k) ≡ 1 * 2 ^ k = and_pow v k ∙ ap (λ (n : ℕ). n % 2 * 2 ^ k) top in
    omega (arith, bit, xor_add_and v (2 ^ k))

-- the sign bit is flipped and taken away again
pub flipped : (w n v : ℕ) → 1 ≤ w → w ≤ n → v < 2 ^ w
    → (bit_xor v (2 ^ (w - 1)) + 2 ^ n - 2 ^ (w - 1)) % 2 ^ n ≡ (if nat_lt v (2 ^ (w - 1)) then v else v + 2 ^ n - 2 ^ w)
flipped w n v positive wider fits =
    let half : ℕ = 2 ^ (w - 1) in
    let whole : 2 ^ w ≡ half + half = twice_sign w positive in
    let room : 2 ^ w ≤ 2 ^ n = pow-le-pow_right {n = 2} (omega arith) wider in
    elim (cases_lt v half) as (λ _. (bit_xor v half + 2 ^ n - half) % 2 ^ n ≡ (if nat_lt v half then v else v + 2 ^ n - 2 ^ w)) [
      | inl low ↦
          let up : bit_xor v half ≡ v + half = flipped_up (w - 1) v low in
          let back : bit_xor v half + 2 ^ n - half ≡ v + 2 ^ n = omega arith in
          let cut : (v + 2 ^ n) % 2 ^ n ≡ v = add-mod_right v (2 ^ n) ∙ mod-eq_of_lt (omega arith) in
          ap (λ (k : ℕ). k % 2 ^ n) back ∙ cut ∙ grind (arith, nat_tests)
      | inr high ↦
          let down : bit_xor v half + half ≡ v = flipped_down (w - 1) v high (omega arith) in
          let back : bit_xor v half + 2 ^ n - half ≡ v + 2 ^ n - 2 ^ w = omega arith in
          let cut : (v + 2 ^ n - 2 ^ w) % 2 ^ n ≡ v + 2 ^ n - 2 ^ w = mod-eq_of_lt (omega arith) in
          ap (λ (k : ℕ). k % 2 ^ n) back ∙ cut ∙ grind (arith, nat_tests)
    ]

-- the same, cut to 128 bits first
pub extended : (w n v : ℕ) → 1 ≤ w → w ≤ n → n ≤ 128 → v < 2 ^ w
    → (bit_xor v (2 ^ (w - 1)) + (2 ^ 128 - 2 ^ (w - 1))) % 2 ^ 128 % 2 ^ n ≡ (if nat_lt v (2 ^ (w - 1)) then v else v + 2 ^ n - 2 ^ w)
extended w n v positive wider narrow fits =
    let less : w - 1 ≤ n = omega arith in
    let below : 2 ^ (w - 1) ≤ 2 ^ n = pow-le-pow_right {n = 2} (omega arith) less in
    cut_difference n (bit_xor v (2 ^ (w - 1))) (2 ^ (w - 1)) narrow below ∙ flipped w n v positive wider fits

-- the word of a width and a number
abbrev word : ℕ → ℕ → Word
word w n = record { width = w; value = n }

-- a number from 0 on, modulo 2 to the width
pub residue_up : (w : ℕ) (c : ℤ) → pos 0 ≤ℤ c → unsigned_abs c % 2 ^ w ≡ unsigned_abs (int_rem_euclid c (pos (2 ^ w)))
residue_up w (pos n) above = refl
residue_up w (negsuc n) above = absurd (omega (arith, ints))

-- a number below 0, modulo 2 to the width
pub residue_down : (w : ℕ) (c : ℤ) → c <ℤ pos 0 → 1 ≤ w → w ≤ 128 → unsigned_abs c ≤ 2 ^ (w - 1)
    → (0 + (2 ^ 128 - unsigned_abs c)) % 2 ^ 128 % 2 ^ w ≡ unsigned_abs (int_rem_euclid c (pos (2 ^ w)))
residue_down w (pos n) below positive narrow near = absurd (omega (arith, ints))
residue_down w (negsuc n) below positive narrow near =
    let whole : 2 ^ w ≡ 2 ^ (w - 1) + 2 ^ (w - 1) = twice_sign w positive in
    let half : 0 < 2 ^ (w - 1) = pow_pos (w - 1) in
    let size : suc n ≤ 2 ^ (w - 1) = near in
    let cut : (0 + (2 ^ 128 - suc n)) % 2 ^ 128 % 2 ^ w ≡ (0 + 2 ^ w - suc n) % 2 ^ w = cut_difference w 0 (suc n) narrow (omega arith) in
    let small : n % 2 ^ w ≡ n = mod-eq_of_lt (omega arith) in
    let fits : (0 + 2 ^ w - suc n) % 2 ^ w ≡ 0 + 2 ^ w - suc n = mod-eq_of_lt (omega arith) in
    let same : 0 + 2 ^ w - suc n ≡ 2 ^ w - 1 - n % 2 ^ w = omega arith in
    cut ∙ fits ∙ same

-- the word of a number from 0 on
pub word_of-up : (w : ℕ) (c : ℤ) (size : ℕ) → size ≡ unsigned_abs c → pos 0 ≤ℤ c → word_of w size ≡ word_of_int w c
word_of-up w c size is above = ap (λ (n : ℕ). word w n) (ap (λ (n : ℕ). n % 2 ^ w) is ∙ residue_up w c above)

-- the word of a number below 0, as a difference that wraps at 128 bits gives it
pub word_of-down : (w : ℕ) (c : ℤ) (size : ℕ) → size ≡ unsigned_abs c → c <ℤ pos 0 → 1 ≤ w → w ≤ 128 → size ≤ 2 ^ (w - 1)
    → word_of w ((0 + (2 ^ 128 - size)) % 2 ^ 128) ≡ word_of_int w c
word_of-down w c size is below positive narrow near =
    ap (λ (n : ℕ). word w n)
    (ap (λ (n : ℕ). (0 + (2 ^ 128 - n)) % 2 ^ 128 % 2 ^ w) is
    ∙ residue_down w c below positive narrow (subst (λ (n : ℕ). n ≤ 2 ^ (w - 1)) is near))
