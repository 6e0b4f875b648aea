use Rattle.std.proofs.Common.{◌≡◌, drop, map, []}
use Rattle.pm_elab.specs.Placing.{place, place_member, place_items, place_members}
use Rattle.pm_frame.proofs.placing.+place.Given as goal

abbrev pub invariant-place_items-loop-index : goal.invariant-place_items-loop-index
invariant-place_items-loop-index l =
    place_items l.index l.done (map place (drop l.index l.items)) l.kinds l.name l.line l.frame ≡ place_items 0 [] (map place l.items) l.kinds l.name l.line l.fn.frame

abbrev pub invariant-place_members-loop-member : goal.invariant-place_members-loop-member
invariant-place_members-loop-member l =
    place_members l.done (map place_member (drop l.member-index l.members)) l.kinds l.name l.line l.frame ≡ place_members [] (map place_member l.members) l.kinds l.name l.line l.fn.frame
