use Rattle.std.proofs.Common.{◌≡◌, ◌<◌, ℕ, ◌&&◌, false}
use Rattle.bit_table.specs.Tables.{is_set}
use Rattle.pm_sched.proofs.cycle.next_step.Given as goal

abbrev pub invariant-loop-next : goal.invariant-loop-next
invariant-loop-next l = (b : ℕ) → b < l.next → (is_set l.predecessors b l.block && is_set l.layers l.layer b) ≡ false
