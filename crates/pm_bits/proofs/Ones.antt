-- How many bits of a number are set.
use Rattle.std.proofs.Common.{◌≡◌, ℕ, zero, suc, ◌+◌, ◌*◌, ◌/◌, ◌%◌, ◌^◌, ◌<◌, arith, ap, sym, refl, ◌∙◌, subst}
use Rattle.std.specs.Prelude.{count_ones}
use lib.Count.{ones}
use Rattle.std.proofs.lemmas.Nat.{pow_pos, mod_below, mod-pow-add, ones_cat}
use Rattle.std.proofs.lemmas.Nat.Bits.{bit_at-lt}
use Rattle.std.proofs.Math.Nat.{mod-eq_of_lt, mod-one}
use Rattle.pm_bits.specs.Bitwise.{set_bits}

-- a bit counts as itself
count_ones-bit : (b : ℕ) → b < 2 → count_ones b ≡ b
unfolding ones
count_ones-bit zero h = refl
count_ones-bit (suc zero) h = refl
count_ones-bit (suc (suc b)) h = absurd (omega arith)

-- the count of the lowest bits is the count of the number that they make
set_bits-count_ones : (v n : ℕ) → set_bits v n ≡ count_ones (v % 2 ^ n)
unfolding set_bits ones
set_bits-count_ones v zero = sym (ap count_ones (mod-one v))
set_bits-count_ones v (suc n) =
    let top : ℕ = v / 2 ^ n % 2 in
    let low : ℕ = v % 2 ^ n in
    let count : count_ones (top * 2 ^ n + low) ≡ count_ones top + count_ones low = ones_cat n top low (mod_below v (2 ^ n) (pow_pos n)) in
    let bit : count_ones top ≡ top = count_ones-bit top (bit_at-lt v n) in
    let below : set_bits v n ≡ count_ones low = set_bits-count_ones v n in
    let one : 1 + n ≡ suc n = omega arith in
    let joined : v % 2 ^ suc n ≡ top * 2 ^ n + low = subst (λ (k : ℕ). v % 2 ^ k ≡ top * 2 ^ n + low) one (mod-pow-add v 1 n) in
    let whole : count_ones (v % 2 ^ suc n) ≡ count_ones (top * 2 ^ n + low) = ap count_ones joined in
    omega (arith, count, bit, below, whole)

-- the count of a word's bits
pub set_bits_of_word : (v n : ℕ) → v < 2 ^ n → set_bits v n ≡ count_ones v
set_bits_of_word v n fits = set_bits-count_ones v n ∙ ap count_ones (mod-eq_of_lt fits)
