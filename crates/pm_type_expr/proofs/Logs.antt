-- Ceiling logarithms, step by step.
use Rattle.std.proofs.Common.{◌≡◌, ◌≤◌, ◌<◌, ◌^◌, ◌+◌, ◌-◌, ℕ, zero, suc, refl, arith}
use Rattle.pm_design.specs.Widths.{log_from}

pub log_here : (f k n : ℕ) → n ≤ 2 ^ k → log_from f k n ≡ k
log_here zero k n fits = refl
log_here (suc f) k n fits = grind (arith, fits)

log_over : (f k n : ℕ) → 2 ^ k < n → log_from (suc f) k n ≡ log_from f (k + 1) n
log_over f k n over = grind (arith, over)

-- a number is below its power of 2
pub below_power : (k : ℕ) → k < 2 ^ k
below_power zero = omega arith
below_power (suc k) = grind (arith, below_power k)

pub log_next : (k m : ℕ) → 2 ^ k ≤ m → log_from (m + 1 - k) k (m + 1) ≡ log_from (m + 1 - (k + 1)) (k + 1) (m + 1)
log_next k m over =
    let below : k < 2 ^ k = below_power k in
    let left : m + 1 - k ≡ suc (m + 1 - (k + 1)) = omega (arith, below, over) in
    rw left (log_over (m + 1 - (k + 1)) k (m + 1) (omega (arith, over)))
