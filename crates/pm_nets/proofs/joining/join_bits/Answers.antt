use Rattle.pm_nets.proofs.Joined.{bits_more}
use Rattle.pm_nets.proofs.joining.join_bits.Goals as goal

pub loop-t-preserved : goal.loop-t-preserved
loop-t-preserved c = bits_more c.args.sets.now c.loop-t.sets c.join.new.self c.args.a c.args.b c.loop-t.t
    c.loop-t.invariant c.join.ensures
