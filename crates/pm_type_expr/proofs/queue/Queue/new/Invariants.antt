use Rattle.std.proofs.Common.{◌≡◌, ◌++◌, reverse, length}
use Rattle.pm_type_expr.proofs.queue.Queue.new.Given as goal

abbrev pub invariant-loop-last : goal.invariant-loop-last
invariant-loop-last g l = l.values ++ reverse l.left ≡ l.fn.values

abbrev pub decreases-loop-last : goal.decreases-loop-last
decreases-loop-last g l = length l.values
