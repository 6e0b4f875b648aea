use Rattle.std.proofs.Common.{◌∙◌, ◌++◌, List, ap}
use Rattle.pm_design.specs.declared.connection.Tie.{Tie}
use Rattle.pm_nets.specs.Faults.{is_source, lines_where}
use Rattle.pm_nets.proofs.Lines.{line_tested, all_lines}
use Rattle.pm_nets.proofs.check.misdirected_ties.Goals as goal

pub loop-tie-preserved : goal.loop-tie-preserved
loop-tie-preserved c = (
  c.loop-tie.invariant.0,
  line_tested (λ t. is_source c.args.design.now c.args.kind.now t.part)
      (λ t. t.line) c.as_slice-tie-items.result.now c.loop-tie.tie-index
      c.loop-tie.lines.items c.keep.new.lines.items _ c.tie-item.result c.is_source.result c.loop-tie-test.true
      c.tie-item.is c.loop-tie.invariant.1
      c.is_source.ensures c.in_ok-keep.ensures,
)

pub returns : goal.returns
returns c =
    all_lines (λ t. is_source c.args.design.now c.args.kind.now t.part)
    (λ t. t.line) c.as_slice-tie-items.result.now c.loop-tie.tie-index c.loop-tie.lines.items _
    c.loop-tie-test.false c.loop-tie.invariant.1
    ∙ ap (λ (l : List Tie). c.args.lines.now.items ++ lines_where
    (λ t. is_source c.args.design.now c.args.kind.now t.part) (λ t. t.line) l) c.loop-tie.invariant.0
