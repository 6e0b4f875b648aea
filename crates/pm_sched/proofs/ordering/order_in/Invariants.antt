use Rattle.std.proofs.Common.{◌≡◌, length}
use Rattle.pm_sched.specs.Ordering.{AreStarts}
use Rattle.pm_sched.specs.Tables.{flag, precedence_in}
use Rattle.pm_sched.proofs.Made.{IsMade}
use Rattle.pm_sched.proofs.ordering.order_in.Given as goal

abbrev pub invariant-loop-turn : goal.invariant-loop-turn
invariant-loop-turn l = record {
  rows : length l.listed.items ≡ l.predecessors.rows;
  starts : AreStarts l.predecessors (flag l.listed.items) l.starts.items;
  made : IsMade (precedence_in l.predecessors) (flag l.listed.items) l.order l._turn;
}
