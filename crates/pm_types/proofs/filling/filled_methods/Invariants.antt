use Rattle.std.proofs.Common.{◌≡◌, ◌++◌, length}
use Rattle.pm_types.specs.Filled.{filled_methods}
use Rattle.pm_types.proofs.filling.filled_methods.Given as goal

abbrev pub invariant-loop-method : goal.invariant-loop-method
invariant-loop-method l = l.filled ++ filled_methods l.queue l.fillings l.guards ≡ filled_methods l.fn.methods l.fn.slots l.fn.guards

abbrev pub decreases-loop-method : goal.decreases-loop-method
decreases-loop-method l = length l.queue
