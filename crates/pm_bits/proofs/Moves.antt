-- Bits that move up or down.
use Rattle.std.proofs.Common.{◌≡◌, ℕ, ◌*◌, ◌%◌, ◌^◌, ◌<◌, ◌≤◌, min, arith, ap, sym, ◌∙◌}
use Rattle.std.proofs.Math.Nat.{mul-mod_left, zero-mod}
use Rattle.pm_bits.proofs.Masks.{cut_again}

-- a move up by the width or more leaves nothing
pub moved_out : (w a b : ℕ) → w ≤ b → 0 % 2 ^ w ≡ a * 2 ^ min b w % 2 ^ w
moved_out w a b out =
    let places : w ≡ min b w = omega arith in
    zero-mod (2 ^ w) ∙ sym (mul-mod_left a (2 ^ w)) ∙ ap (λ (k : ℕ). a * 2 ^ k % 2 ^ w) places

-- a move up by less, cut to 128 bits first
pub moved_up : (w a b : ℕ) → w ≤ 128 → b < w → a * 2 ^ b % 2 ^ 128 % 2 ^ w ≡ a * 2 ^ min b w % 2 ^ w
moved_up w a b narrow inside =
    let places : b ≡ min b w = omega arith in
    cut_again w (a * 2 ^ b) narrow ∙ ap (λ (k : ℕ). a * 2 ^ k % 2 ^ w) places

-- both
pub ruleset moves = (moved_out, moved_up)
