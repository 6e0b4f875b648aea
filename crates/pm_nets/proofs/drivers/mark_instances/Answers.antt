use Rattle.std.proofs.Common.{◌∙◌}
use Rattle.pm_instances.specs.Laid.{laid_out}
use Rattle.pm_nets.specs.Drivers.{drivers_in}
use Rattle.pm_nets.proofs.Marking.{range_marked}
use Rattle.pm_nets.proofs.drivers.mark_instances.Goals as goal

pub loop-i-preserved : goal.loop-i-preserved
loop-i-preserved c = (
  c.mark_instance.ensures.same ∙ c.loop-i.invariant.0,
  range_marked
      (drivers_in (laid_out c.args.design.now)) c.args.sets.now c.loop-i.sets c.args.driven.now c.loop-i.driven
      c.mark_instance.new.driven c.loop-i.i c.loop-i.invariant.0 c.loop-i.invariant.1
      c.in_ok-mark_instance.ensures.marks,
)
