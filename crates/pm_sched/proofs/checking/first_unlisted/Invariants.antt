use Rattle.std.proofs.Common.{◌≡◌, ◌<◌, ℕ, not, false}
use Rattle.pm_sched.specs.Tables.{flag}
use Rattle.pm_sched.proofs.checking.first_unlisted.Given as goal

abbrev pub invariant-loop-block : goal.invariant-loop-block
invariant-loop-block l = (k : ℕ) → k < l.block → not (flag l.listed k) ≡ false
