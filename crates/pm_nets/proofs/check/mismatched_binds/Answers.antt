use Rattle.std.proofs.Common.{not}
use Rattle.pm_nets.proofs.Lines.{line_more, all_lines}
use Rattle.pm_nets.proofs.check.mismatched_binds.Goals as goal

pub loop-bind-preserved : goal.loop-bind-preserved
loop-bind-preserved c =
    line_more (λ b. not b.equal_types) (λ b. b.line) c.args.binds.now c.loop-bind.bind-index
    c.loop-bind.lines.items c.keep.new.lines.items _ _ c.loop-bind-test.true c.loop-bind.invariant
    c.in_ok-keep.ensures

pub returns : goal.returns
returns c =
    all_lines (λ b. not b.equal_types) (λ b. b.line) c.args.binds.now c.loop-bind.bind-index c.loop-bind.lines.items _
    c.loop-bind-test.false c.loop-bind.invariant
