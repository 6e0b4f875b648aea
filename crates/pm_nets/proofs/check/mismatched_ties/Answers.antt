use Rattle.pm_nets.specs.Faults.{is_without}
use Rattle.pm_nets.proofs.Lines.{line_tested, all_lines}
use Rattle.pm_nets.proofs.check.mismatched_ties.Goals as goal

pub loop-tie-preserved : goal.loop-tie-preserved
loop-tie-preserved c =
    line_tested (λ t. is_without t.value) (λ t. t.line) c.args.ties.now c.loop-tie.tie-index
    c.loop-tie.lines.items c.keep.new.lines.items _ c.tie-item.result c.is_without.result c.loop-tie-test.true
    c.tie-item.is c.loop-tie.invariant
    c.is_without.ensures c.in_ok-keep.ensures

pub returns : goal.returns
returns c =
    all_lines (λ t. is_without t.value) (λ t. t.line) c.args.ties.now c.loop-tie.tie-index c.loop-tie.lines.items _
    c.loop-tie-test.false c.loop-tie.invariant
