use Rattle.std.proofs.Common.{◌≡◌, map, take}
use Rattle.pm_types.proofs.effects.types_of.Given as goal

abbrev pub invariant-loop-argument : goal.invariant-loop-argument
invariant-loop-argument l = l.types ≡ map (λ a. a.ty) (take l.argument-index l.arguments)
