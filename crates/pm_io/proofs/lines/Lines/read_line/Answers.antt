use Rattle.std.proofs.Common.{◌≡◌, ◌<◌, ◌≤◌, ℕ, List, length, ap, sym, subst, ◌∙◌, arith}
use Rattle.pm_io.specs.Lines.{HasNoLineEnd}
use Rattle.pm_io.specs.Known.{Keeps}
use Rattle.pm_io.specs.Reading.{Gives, ahead}
use Rattle.pm_io.proofs.Ahead.{gives_taken, gives_over, gives_last, keeps_on}
use Rattle.pm_io.proofs.lines.Lines.read_line.Goals as goal

pub returns-in-Some-clause-line : goal.returns-in-Some-clause-line
returns-in-Some-clause-line g c =
    gives_taken _ _ c.fill.new.self c.find_line_end.new.self c.take_line.new.self c.in-Some.count c.args.self.now.limit c.take_line.result (
    keeps_on _ _ _ c.loop-self.invariant.kept c.fill.ensures.ahead
    ) c.in-Some.ensures.found (
    omega (arith, c.in-Some.ensures.found.0, c.find_line_end.ensures.room, c.fill.ensures.limit, c.loop-self.invariant.limit)
    ) c.find_line_end.ensures.same c.take_line.ensures.taken c.take_line.ensures.got

pub returns-in-End-clause-line : goal.returns-in-End-clause-line
returns-in-End-clause-line g c =
    let told = ahead c.args.self.now.buffered (g.S.Source.left c.args.source.now) in
    let left = g.S.Source.left c.fill.new.source in
    let limit : c.fill.new.self.limit ≡ c.args.self.now.limit = c.fill.ensures.limit ∙ c.loop-self.invariant.limit in
    let same = c.in-End.ensures.filled.0 in
    let within : length c.loop-self.self.buffered ≤ c.loop-self.self.limit = grind (arith, c.is_over.ensures, c.loop-self-test.true) in
    subst (λ (n : ℕ). Gives told (ahead c.finish.new.self.buffered left) n c.finish.new.self.line c.finish.result) limit (
    gives_last told (g.S.Source.left c.loop-self.source) left c.fill.new.self c.finish.new.self c.finish.result (
    subst (λ (bytes : List ℕ). Keeps told (ahead bytes (g.S.Source.left c.loop-self.source))) (sym same) c.loop-self.invariant.kept
    ) c.in-End.ensures.filled.1 (
    keeps_on _ _ _ c.loop-self.invariant.kept c.fill.ensures.ahead
    ) (
    subst HasNoLineEnd (sym same) c.loop-self.invariant.clean
    ) (omega (arith, within, ap length same, c.fill.ensures.limit)) c.finish.ensures
    )

pub returns-clause-line : goal.returns-clause-line
returns-clause-line g c =
    let over : c.args.self.now.limit < length c.loop-self.self.buffered =
    omega (arith, c.is_over.ensures.0 c.loop-self-test.false, c.loop-self.invariant.limit) in
    gives_over (ahead c.args.self.now.buffered (g.S.Source.left c.args.source.now)) (g.S.Source.left c.loop-self.source)
    (ahead c.stop-2.new.self.buffered (g.S.Source.left c.loop-self.source)) c.loop-self.self.buffered c.args.self.now.limit
    c.stop-2.new.self.line c.stop-2.result c.loop-self.invariant.kept c.loop-self.invariant.clean over c.stop-2.ensures.got
