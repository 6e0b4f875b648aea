use Rattle.std.proofs.Common.{not}
use Rattle.pm_nets.proofs.Lines.{line_more, all_lines}
use Rattle.pm_nets.proofs.check.mismatched_joins.Goals as goal

pub loop-join-preserved : goal.loop-join-preserved
loop-join-preserved c =
    line_more (λ j. not j.equal_types) (λ j. j.line) c.args.joins.now c.loop-join.join-index
    c.loop-join.lines.items c.keep.new.lines.items _ _ c.loop-join-test.true c.loop-join.invariant
    c.in_ok-keep.ensures

pub returns : goal.returns
returns c =
    all_lines (λ j. not j.equal_types) (λ j. j.line) c.args.joins.now c.loop-join.join-index c.loop-join.lines.items _
    c.loop-join-test.false c.loop-join.invariant
