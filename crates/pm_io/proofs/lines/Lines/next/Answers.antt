use Rattle.std.proofs.Common.{arith}
use Rattle.pm_io.specs.Reading.{ahead}
use Rattle.pm_io.proofs.KnownBytes.{keeps_same}
use Rattle.pm_io.proofs.Ahead.{gives_taken}
use Rattle.pm_io.proofs.lines.Lines.next.Goals as goal

pub returns-in-Some-clause-line : goal.returns-in-Some-clause-line
returns-in-Some-clause-line g c =
    gives_taken _ _ c.args.self.now c.find_line_end.new.self c.take_line.new.self c.in-Some.count c.args.self.now.limit c.take_line.result (
    keeps_same (ahead c.args.self.now.buffered (g.S.Source.left c.args.source.now))
    ) c.in-Some.ensures.found (
    omega (arith, c.in-Some.ensures.found.0, c.find_line_end.ensures.room)
    ) c.find_line_end.ensures.same c.take_line.ensures.taken c.take_line.ensures.got
