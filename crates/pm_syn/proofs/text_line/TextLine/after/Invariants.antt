use Rattle.std.proofs.Common.{◌≡◌, ◌+◌, take}
use Rattle.pm_syn.specs.Positions.{line_ends}
use Rattle.pm_syn.proofs.LineEnds.{start_after}
use Rattle.pm_syn.proofs.text_line.TextLine.after.Given as goal

abbrev pub invariant-loop-count : goal.invariant-loop-count
invariant-loop-count l = record {
  line : l.line.number ≡ l.fn.self.number + line_ends (take l.count l.bytes);
  start : l.line.start ≡ start_after l.fn.self.start l.at (take l.count l.bytes);
}
