use Rattle.std.proofs.Common.{◌≡◌, length}
use Rattle.pm_syn.specs.ColumnStack.{down_to}
use Rattle.pm_syn.proofs.indentation.return_to.Given as goal

abbrev pub invariant-loop-columns : goal.invariant-loop-columns
invariant-loop-columns l = down_to l.column l.columns ≡ down_to l.column l.fn.columns

abbrev pub decreases-loop-columns : goal.decreases-loop-columns
decreases-loop-columns l = length l.columns
