use Rattle.std.proofs.Common.{◌≡◌, ◌++◌, drop, map, take}
use Rattle.pm_elab.specs.Classes.{leading}
use Rattle.pm_class.proofs.arguments.leading_values.Given as goal

abbrev pub invariant-loop-argument : goal.invariant-loop-argument
invariant-loop-argument l =
    l.values ++ map (λ g. g.value) (drop l.argument-index (take (leading l.given) l.given)) ≡ map (λ g. g.value) (take (leading l.given) l.given)
