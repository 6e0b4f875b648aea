use Rattle.std.proofs.Common.{◌≡◌, ◌+◌, ◌-◌, ◌≤◌, length, true}
use Rattle.pm_io.specs.Known.{Keeps}
use Rattle.pm_io.specs.Lines.{HasNoLineEnd}
use Rattle.pm_io.specs.Reading.{ahead}
use Rattle.pm_io.proofs.lines.Lines.read_line.Given as goal

-- no line was found so far, and no byte was lost
abbrev pub invariant-loop-self : goal.invariant-loop-self
invariant-loop-self g l = record {
  live : l.self.live ≡ true;
  limit : l.self.limit ≡ l.fn.self.limit;
  line : l.self.line ≡ l.fn.self.line;
  clean : HasNoLineEnd l.self.buffered;
  kept : Keeps (ahead l.fn.self.buffered (g.S.Source.left l.fn.source)) (ahead l.self.buffered (g.S.Source.left l.source));
  later : g.S.Source.faults l.fn.source ≤ g.S.Source.faults l.source;
}

abbrev pub decreases-loop-self : goal.decreases-loop-self
decreases-loop-self g l = l.self.limit + 1 - length l.self.buffered
