use Rattle.std.proofs.Common.{◌∙◌}
use Rattle.pm_frame.proofs.Pairs.{more_types_left}
use Rattle.pm_frame.proofs.types.same_types.Goals as goal

pub returns-in-None : goal.returns-in-None
returns-in-None c = more_types_left c.args.a.now c.args.b.now c.loop-index.index c.loop-index-test.true c.in-None.ensures.lookup.3 ∙ c.loop-index.invariant
