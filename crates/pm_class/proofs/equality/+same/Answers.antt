use Rattle.std.proofs.Common.{◌∙◌}
use Rattle.pm_class.proofs.Pairs.{more_arguments_left}
use Rattle.pm_class.proofs.equality.+same.Goals as goal

pub same_arguments-returns-in-None : goal.same_arguments-returns-in-None
same_arguments-returns-in-None t c =
    more_arguments_left c.args.a.now c.args.b.now c.loop-index.index c.loop-index-test.true c.in-None.ensures.lookup.3 ∙ c.loop-index.invariant
