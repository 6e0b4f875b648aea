use Rattle.pm_subtree.proofs.Paths.{subtree_sound}
use Rattle.pm_subtree.proofs.laws.subtrees_are_sound.Goals as goal

pub returns : goal.returns
returns c = subtree_sound
