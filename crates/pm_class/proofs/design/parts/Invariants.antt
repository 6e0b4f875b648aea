use Rattle.std.proofs.Common.{◌≡◌, ◌++◌, length, map, reverse}
use Rattle.pm_elab.specs.declared.elaboration.MadeKind.{MadeKind}
use Rattle.pm_class.proofs.design.parts.Given as goal

abbrev pub invariant-loop-made : goal.invariant-loop-made
invariant-loop-made l =
    (l.parts.kinds ++ map (λ (m : MadeKind). m.kind) (reverse l.rest) ≡ map (λ (m : MadeKind). m.kind) l.fn.made)
    × (l.parts.raws ++ map (λ (m : MadeKind). m.raw) (reverse l.rest) ≡ map (λ (m : MadeKind). m.raw) l.fn.made)

abbrev pub decreases-loop-made : goal.decreases-loop-made
decreases-loop-made l = length l.rest
