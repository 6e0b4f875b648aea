-- Widths and sums of them.
use Rattle.std.specs.Prelude.{ℕ, zero, suc, ◌+◌, ◌^◌, ◌&&◌, Bool, nat_le, if◌then◌else◌, List, [], ◌∷◌}

-- the numbers added up
abbrev pub total : List ℕ → ℕ
total [] = 0
total (n ∷ ns) = n + total ns

-- 1 to 128
abbrev pub is_width : ℕ → Bool
is_width n = nat_le 1 n && nat_le n 128

-- the least k from a first one on with n at most 2^k, among so many
abbrev pub log_from : ℕ → ℕ → ℕ → ℕ
log_from zero k n = k
log_from (suc others) k n = if nat_le n (2 ^ k) then k else log_from others (k + 1) n

-- the least k with n at most 2^k
abbrev pub log_of : ℕ → ℕ
log_of n = log_from n 0 n
