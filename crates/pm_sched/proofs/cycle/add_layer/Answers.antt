use Rattle.pm_sched.proofs.Layers.{none_added, more_added}
use Rattle.pm_sched.proofs.cycle.add_layer.Goals as goal

pub loop-block-init : goal.loop-block-init
loop-block-init c = none_added c.args.predecessors.now c.args.layers.now c.args.layer

pub loop-block-preserved : goal.loop-block-preserved
loop-block-preserved c = more_added c.args.predecessors.now c.args.layers.now c.loop-block.layers c.add_predecessors.new.layers c.args.layer c.loop-block.block c.loop-block.invariant c.add_predecessors.ensures
