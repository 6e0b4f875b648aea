use Rattle.pm_elab.specs.declared.elaboration.MadeKind.{MadeKind}
use Rattle.pm_class.proofs.Movings.{item_moved}
use Rattle.pm_class.proofs.design.parts.Goals as goal

pub loop-made-preserved : goal.loop-made-preserved
loop-made-preserved c = (
  item_moved (λ (m : MadeKind). m.kind) _ _ _ _ _ _ c.in-Some.ensures c.in_ok-put.ensures.kinds c.loop-made.invariant.0,
  item_moved (λ (m : MadeKind). m.raw) _ _ _ _ _ _ c.in-Some.ensures c.in_ok-put.ensures.raws c.loop-made.invariant.1,
)
