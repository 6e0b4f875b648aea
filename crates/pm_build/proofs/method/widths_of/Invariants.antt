use Rattle.std.proofs.Common.{◌≡◌, ◌++◌, drop, map}
use Rattle.pm_build.proofs.method.widths_of.Given as goal

abbrev pub invariant-loop-argument : goal.invariant-loop-argument
invariant-loop-argument l = l.widths ++ map (λ a. a.ty.width) (drop l.argument-index l.arguments) ≡ map (λ a. a.ty.width) l.arguments
