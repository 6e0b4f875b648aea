use Rattle.std.proofs.Common.{◌≡◌, map}
use Rattle.pm_syn.specs.LogicalLines.{line_from}
use Rattle.pm_syn.proofs.draft.lines_from.Given as goal

abbrev pub invariant-loop-draft : goal.invariant-loop-draft
invariant-loop-draft l = l.lines ≡ map line_from l.yielded
