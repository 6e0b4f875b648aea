use Rattle.pm_sched.proofs.Extended.{AreExtended}
use Rattle.pm_sched.proofs.closing.close_through.Given as goal

abbrev pub invariant-loop-row : goal.invariant-loop-row
invariant-loop-row l = AreExtended l.fn.table l.table l.middle l.row
