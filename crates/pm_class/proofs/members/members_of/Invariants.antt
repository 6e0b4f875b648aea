use Rattle.std.proofs.Common.{◌≡◌, ◌++◌, drop}
use Rattle.pm_elab.specs.Constructs.{members_of}
use Rattle.pm_class.proofs.members.members_of.Given as goal

abbrev pub invariant-loop-index : goal.invariant-loop-index
invariant-loop-index l = l.members ++ members_of (drop l.index l.attributes) ≡ members_of l.attributes
