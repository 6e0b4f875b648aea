-- When there is no order.
use Rattle.std.specs.Prelude.{IsTrue}
use Rattle.pm_cons.specs.Precedence.{Precedence, has_loop}
use Rattle.pm_sched.specs.Cycles.{IsReported}
use Rattle.pm_sched.specs.declared.fault.OrderFault.{OrderFault}
use Rattle.pm_sched.specs.declared.fault.OrderFault.TheVariants as fault

-- a cycle is a fault only if there is a loop, and it is the reported one; memory may run out at any time
abbrev pub IsFaultOf : Precedence → OrderFault → Type 0
IsFaultOf g (fault.Cycle list) = IsTrue (has_loop g) × IsReported g list
IsFaultOf g fault.NoMemory = Unit {0}
