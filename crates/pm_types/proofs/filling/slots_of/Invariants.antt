use Rattle.std.proofs.Common.{◌≡◌, length}
use Rattle.pm_types.proofs.Slots.{with_all, none_of}
use Rattle.pm_types.proofs.filling.slots_of.Given as goal

abbrev pub invariant-loop-body : goal.invariant-loop-body
invariant-loop-body l = with_all l.bodies l.slots ≡ with_all l.fn.bodies (none_of l.fn.blocks l.fn.methods)

abbrev pub decreases-loop-body : goal.decreases-loop-body
decreases-loop-body l = length l.bodies
