use Rattle.pm_sched.proofs.Extended.{IsClosed}
use Rattle.pm_sched.proofs.closing.close.Given as goal

abbrev pub invariant-loop-middle : goal.invariant-loop-middle
invariant-loop-middle l = IsClosed l.fn.table l.table l.middle
