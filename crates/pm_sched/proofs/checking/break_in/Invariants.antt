use Rattle.pm_sched.specs.Tables.{precedence_in}
use Rattle.pm_sched.proofs.Checked.{IsChecked}
use Rattle.pm_sched.proofs.checking.break_in.Given as goal

abbrev pub invariant-loop-place : goal.invariant-loop-place
invariant-loop-place l = IsChecked (precedence_in l.predecessors) l.listed.items l.order l.place
