use Rattle.std.proofs.Common.{◌≡◌, ◌<◌, ℕ, false}
use Rattle.pm_cons.specs.DefaultOrder.{is_ready}
use Rattle.pm_sched.specs.Ordering.{AreStarts}
use Rattle.pm_sched.specs.Tables.{flag, precedence_in}
use Rattle.pm_sched.proofs.ordering.next_block.Given as goal

abbrev pub invariant-loop-block : goal.invariant-loop-block
invariant-loop-block l = AreStarts l.predecessors (flag l.listed) l.starts.items
    × ((k : ℕ) → k < l.block → is_ready (precedence_in l.predecessors) (flag l.listed) k ≡ false)
