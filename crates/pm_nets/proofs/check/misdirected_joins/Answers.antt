use Rattle.std.proofs.Common.{◌∙◌, ◌++◌, List, ap}
use Rattle.std.specs.Prelude.{◌&&◌}
use Rattle.pm_design.specs.declared.connection.Join.{Join}
use Rattle.pm_nets.specs.Faults.{is_source, lines_where}
use Rattle.pm_nets.proofs.Lines.{element_tested, all_lines}
use Rattle.pm_nets.proofs.check.misdirected_joins.Goals as goal

pub loop-join-preserved : goal.loop-join-preserved
loop-join-preserved c = (
  c.loop-join.invariant.0,
  element_tested (λ j. is_source c.args.design.now c.args.kind.now j.a && is_source
      c.args.design.now c.args.kind.now j.b) (λ j. j.line) c.as_slice-join-items.result.now c.loop-join.join-index
      c.loop-join.lines.items c.keep.new.lines.items _ _ c.joins_sources.result c.loop-join-test.true
      c.loop-join.invariant.1 c.joins_sources.ensures c.in_ok-keep.ensures,
)

pub returns : goal.returns
returns c =
    all_lines (λ j. is_source c.args.design.now c.args.kind.now j.a && is_source c.args.design.now c.args.kind.now
    j.b) (λ j. j.line) c.as_slice-join-items.result.now c.loop-join.join-index c.loop-join.lines.items _
    c.loop-join-test.false c.loop-join.invariant.1
    ∙ ap (λ (l : List Join). c.args.lines.now.items ++ lines_where
    (λ j. is_source c.args.design.now c.args.kind.now j.a && is_source c.args.design.now c.args.kind.now j.b)
    (λ j. j.line) l) c.loop-join.invariant.0
