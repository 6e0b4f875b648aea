use Rattle.pm_sched.specs.Tables.{precedence_in}
use Rattle.pm_sched.proofs.Walked.{IsWalked}
use Rattle.pm_sched.proofs.cycle.walk_back.Given as goal

abbrev pub invariant-loop-step : goal.invariant-loop-step
invariant-loop-step l = IsWalked (precedence_in l.predecessors) l.last l.block l.step l.at l.list
