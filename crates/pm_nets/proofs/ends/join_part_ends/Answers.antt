use Rattle.pm_instances.specs.Laid.{laid_out}
use Rattle.pm_nets.proofs.Ending.{parts_ended}
use Rattle.pm_nets.proofs.ends.join_part_ends.Goals as goal

pub returns : goal.returns
returns c =
    parts_ended (laid_out c.args.design.now) c.args.i c.args.join.now c.args.sets.now c.join_end_bits.new.sets
    c.first_bit-a.result c.first_bit-b.result c.min.result c.first_bit-a.ensures.value c.first_bit-b.ensures.value
    c.min.ensures c.join_end_bits.ensures
