use Rattle.pm_subtree.proofs.Paths.{no_kind_at}
use Rattle.pm_subtree.proofs.cutting.kind_at.Goals as goal

pub returns-in-None : goal.returns-in-None
returns-in-None c = no_kind_at c.args.design.now c.requires c.args.path.now c.in-None.ensures
