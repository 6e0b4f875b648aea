use Rattle.std.proofs.Common.{◌≡◌, length}
use Rattle.pm_parse.specs.EnclosingLines.{above}
use Rattle.pm_parse.proofs.enclosing.leave.Given as goal

abbrev pub invariant-loop-outer : goal.invariant-loop-outer
invariant-loop-outer l = above l.column l.outer ≡ above l.column l.fn.outer

abbrev pub decreases-loop-outer : goal.decreases-loop-outer
decreases-loop-outer l = length l.outer
