use Rattle.std.proofs.Common.{◌≡◌, drop}
use Rattle.pm_elab.specs.Attributes.{member_named}
use Rattle.pm_elab.proofs.member.member_named.Given as goal

abbrev pub invariant-loop-member : goal.invariant-loop-member
invariant-loop-member l = member_named (drop l.member-index l.members) l.name ≡ member_named l.members l.name
