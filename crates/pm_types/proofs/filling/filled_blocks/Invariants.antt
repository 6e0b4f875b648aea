use Rattle.std.proofs.Common.{◌≡◌, ◌++◌, length}
use Rattle.pm_types.specs.Filled.{filled_blocks}
use Rattle.pm_types.proofs.filling.filled_blocks.Given as goal

abbrev pub invariant-loop-block : goal.invariant-loop-block
invariant-loop-block l = l.filled ++ filled_blocks l.queue l.fillings ≡ filled_blocks l.fn.blocks l.fn.slots

abbrev pub decreases-loop-block : goal.decreases-loop-block
decreases-loop-block l = length l.queue
