use Rattle.std.proofs.Common.{◌≡◌, ◌<◌, ℕ, false}
use Rattle.bit_table.specs.Tables.{is_set}
use Rattle.pm_sched.proofs.closing.first_on_diagonal.Given as goal

abbrev pub invariant-loop-block : goal.invariant-loop-block
invariant-loop-block l = (b : ℕ) → b < l.block → is_set l.table b b ≡ false
