use Rattle.pm_subtree.proofs.Paths.{subtree_instances}
use Rattle.pm_subtree.proofs.laws.subtrees_have_their_instances.Goals as goal

pub returns : goal.returns
returns c = subtree_instances
