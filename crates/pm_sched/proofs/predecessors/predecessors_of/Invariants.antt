use Rattle.pm_sched.proofs.Filling.{AreFilled}
use Rattle.pm_sched.proofs.predecessors.predecessors_of.Given as goal

abbrev pub invariant-loop-block : goal.invariant-loop-block
invariant-loop-block l = AreFilled l.edges l.table l.block
