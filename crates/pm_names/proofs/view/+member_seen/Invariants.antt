use Rattle.std.proofs.Common.{◌≡◌, ◌++◌, drop, map}
use Rattle.pm_elab.specs.Views.{member_seen}
use Rattle.pm_names.specs.Views.{seen_member}
use Rattle.pm_names.proofs.view.+member_seen.Given as goal

abbrev pub invariant-seen_items-loop-item : goal.invariant-seen_items-loop-item
invariant-seen_items-loop-item l = l.seen ++ map member_seen (drop l.item-index l.items) ≡ map member_seen l.items

abbrev pub invariant-seen_members-loop-member : goal.invariant-seen_members-loop-member
invariant-seen_members-loop-member l = l.seen ++ map seen_member (drop l.member-index l.members) ≡ map seen_member l.members
