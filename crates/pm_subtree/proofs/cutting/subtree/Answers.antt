use Rattle.pm_subtree.proofs.Paths.{subtree_is}
use Rattle.pm_subtree.proofs.cutting.subtree.Goals as goal

pub returns-in_ok-copy_with_top-in-Some : goal.returns-in_ok-copy_with_top-in-Some
returns-in_ok-copy_with_top-in-Some c =
    subtree_is c.args.design.now _ c.args.path.now c.in-Some.top c.in-Some.ensures
    c.in_ok-copy_with_top-in-Some.ensures
