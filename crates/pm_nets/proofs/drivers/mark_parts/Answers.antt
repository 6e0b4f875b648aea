use Rattle.std.proofs.Common.{◌∙◌}
use Rattle.pm_instances.specs.Laid.{laid_out}
use Rattle.pm_nets.specs.Drivers.{part_bits}
use Rattle.pm_nets.proofs.Marking.{next_marked}
use Rattle.pm_nets.proofs.drivers.mark_parts.Goals as goal

pub loop-part-preserved : goal.loop-part-preserved
loop-part-preserved c = (
  c.mark_part.ensures.same ∙ c.loop-part.invariant.0,
  next_marked (part_bits (laid_out c.args.design.now) c.args.i) c.args.sets.now c.loop-part.sets c.args.driven.now
      c.loop-part.driven c.mark_part.new.driven c.args.parts.now c.loop-part.part-index _ c.loop-part.invariant.0
      c.loop-part-test.true c.loop-part.invariant.1 c.mark_part.ensures.marks,
)
