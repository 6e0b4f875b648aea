use Rattle.std.proofs.Common.{◌≡◌, ◌++◌, drop, map}
use Rattle.pm_frame.proofs.types.types_of_method.Given as goal

abbrev pub invariant-loop-argument : goal.invariant-loop-argument
invariant-loop-argument l = l.arguments ++ map (λ a. a.ty) (drop l.argument-index l.method.arguments) ≡ map (λ a. a.ty) l.method.arguments
