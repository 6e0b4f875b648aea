use Rattle.std.proofs.Common.{drop}
use Rattle.pm_parse.proofs.KeptLines.{AreEntriesBefore}
use Rattle.pm_parse.proofs.entry.entries.Given as goal

abbrev pub invariant-loop-line : goal.invariant-loop-line
invariant-loop-line l = AreEntriesBefore l.lines (drop l.line-index l.lines) l.enclosing l.entries
