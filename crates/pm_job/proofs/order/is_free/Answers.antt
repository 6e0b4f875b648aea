use Rattle.std.proofs.Common.{ap, rules, tests}
use Rattle.std.specs.Prelude.{not}
use Rattle.std.proofs.lemmas.Iterator.{YieldsList-from_slice}
use Rattle.std.proofs.lemmas.Iterator.Search.{any_from_yields_List}
use Rattle.pm_job.specs.Precedence.{precedes}
use Rattle.pm_job.proofs.order.is_free.Goals as goal

pub returns : goal.returns
returns c =
    ap not (any_from_yields_List (λ other. precedes c.args.blocks.now other c.args.index) _ _ _ c.any.ensures.ran (YieldsList-from_slice c.args.indices.now cc)
    (λ x b q k. search (rules, tests)))
