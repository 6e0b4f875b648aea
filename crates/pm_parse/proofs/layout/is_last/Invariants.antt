-- The lines so far are deeper, so the rest decides.
use Rattle.std.proofs.Common.{◌≡◌, drop}
use Rattle.pm_parse.specs.Layout.{is_last}
use Rattle.pm_parse.proofs.layout.is_last.Given as goal

abbrev pub invariant-loop-entry : goal.invariant-loop-entry
invariant-loop-entry l = is_last l.fn.column l.fn.next ≡ is_last l.fn.column (drop l.entry-index l.fn.next)
