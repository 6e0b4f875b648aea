use Rattle.std.proofs.Common.{◌≡◌, ◌++◌, drop, map}
use Rattle.pm_elab.specs.Views.{viewed}
use Rattle.pm_names.specs.Views.{view_of, viewed_member}
use Rattle.pm_names.proofs.view.+viewed.Given as goal

abbrev pub invariant-viewed_items-loop-item : goal.invariant-viewed_items-loop-item
invariant-viewed_items-loop-item l =
    l.seen ++ map (viewed (view_of l.view)) (drop l.item-index l.items) ≡ map (viewed (view_of l.view)) l.items

abbrev pub invariant-viewed_members-loop-member : goal.invariant-viewed_members-loop-member
invariant-viewed_members-loop-member l =
    l.seen ++ map (viewed_member (view_of l.view)) (drop l.member-index l.members) ≡ map (viewed_member (view_of l.view)) l.members
