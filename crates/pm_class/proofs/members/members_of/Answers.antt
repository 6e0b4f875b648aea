use Rattle.pm_class.proofs.Namings.{member_added}
use Rattle.pm_class.proofs.members.members_of.Goals as goal

pub loop-index-preserved : goal.loop-index-preserved
loop-index-preserved c =
    member_added _ _ _ _ _ _ _ c.in-Some.ensures c.in_ok-member-in-Some.ensures c.in_ok-push-in-Some.ensures.ok c.loop-index.invariant
