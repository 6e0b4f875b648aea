use Rattle.std.proofs.Common.{◌≡◌, ◌++◌, length}
use Rattle.pm_types.specs.Filled.{filled_kinds}
use Rattle.pm_types.proofs.filling.filled_kinds.Given as goal

abbrev pub invariant-loop-kind : goal.invariant-loop-kind
invariant-loop-kind l = l.filled ++ filled_kinds l.queue l.bodies ≡ filled_kinds l.fn.kinds l.fn.bodies

abbrev pub decreases-loop-kind : goal.decreases-loop-kind
decreases-loop-kind l = length l.queue
