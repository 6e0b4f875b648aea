use Rattle.pm_sched.proofs.Layers.{AreAdded}
use Rattle.pm_sched.proofs.cycle.add_layer.Given as goal

abbrev pub invariant-loop-block : goal.invariant-loop-block
invariant-loop-block l = AreAdded l.predecessors l.fn.layers l.layers l.layer l.block
