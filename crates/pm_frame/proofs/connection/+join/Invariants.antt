use Rattle.std.proofs.Common.{◌≡◌, drop, map}
use Rattle.pm_elab.specs.Connections.{join_member, named_joining, join_members, join_items}
use Rattle.pm_frame.proofs.connection.+join.Given as goal

abbrev pub invariant-join_members-loop-member : goal.invariant-join_members-loop-member
invariant-join_members-loop-member l =
    join_members (map named_joining (drop l.member-index l.members)) l.kinds l.others l.line l.frame
    ≡ join_members (map named_joining l.members) l.kinds l.others l.line l.fn.frame

abbrev pub invariant-join_items-loop-index : goal.invariant-join_items-loop-index
invariant-join_items-loop-index l =
    join_items (map join_member (drop l.index l.items)) l.kinds (drop l.index l.others) l.line l.frame
    ≡ join_items (map join_member l.items) l.kinds l.others l.line l.fn.frame
