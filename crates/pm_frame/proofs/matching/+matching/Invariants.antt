use Rattle.std.proofs.Common.{◌≡◌, drop, map}
use Rattle.pm_elab.specs.Connections.{matching, member_match, members_match, items_match}
use Rattle.pm_frame.proofs.matching.+matching.Given as goal

abbrev pub invariant-members_match-loop-member : goal.invariant-members_match-loop-member
invariant-members_match-loop-member l =
    members_match (map member_match (drop l.member-index l.members)) l.others ≡ members_match (map member_match l.members) l.others

abbrev pub invariant-items_match-loop-index : goal.invariant-items_match-loop-index
invariant-items_match-loop-index l =
    items_match (map matching (drop l.index l.items)) (drop l.index l.others) ≡ items_match (map matching l.items) l.others
