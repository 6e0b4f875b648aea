use Rattle.std.proofs.Common.{ap₂, ℕ}
use Rattle.pm_instances.specs.Laid.{laid_out}
use Rattle.pm_callees.proofs.LinkLists.{bind_joined, binds_joined}
use Rattle.pm_callees.proofs.joining.join_instance.Goals as goal

pub loop-bind-preserved : goal.loop-bind-preserved
loop-bind-preserved c = (
  c.loop-bind.invariant.0,
  bind_joined (laid_out c.args.design.now) c.args.i c.args.sets.now c.loop-bind.sets c.join.new.self
      c.as_slice-bind-items.result.now c.loop-bind.bind-index _ c.callee_number-a.result c.callee_number-b.result
      c.loop-bind-test.true
      (ap₂ (λ (a b : ℕ). (a, b)) c.callee_number-a.ensures.value c.callee_number-b.ensures.value)
      c.loop-bind.invariant.1 c.join.ensures,
)

pub returns : goal.returns
returns c =
    binds_joined (laid_out c.args.design.now) c.args.i c.args.sets.now c.loop-bind.sets
    c.as_slice-bind-items.result.now c.loop-bind.bind-index c.loop-bind-test.false c.loop-bind.invariant.0
    c.loop-bind.invariant.1
