use Rattle.std.proofs.Common.{length}
use Rattle.pm_parse.proofs.FirstFault.{HasFirst}
use Rattle.pm_parse.proofs.layout.first_fault.Given as goal

abbrev pub invariant-loop-entry : goal.invariant-loop-entry
invariant-loop-entry l = HasFirst l.entries l.lines l.rest

abbrev pub decreases-loop-entry : goal.decreases-loop-entry
decreases-loop-entry l = length l.rest
