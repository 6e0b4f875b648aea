use Rattle.std.proofs.Common.{◌≡◌, replicate}
use Rattle.pm_typing.specs.declared.frame.Bound.TheVariants as bounds
use Rattle.pm_types.proofs.bodies.unassigned.Given as goal

abbrev pub invariant-loop : goal.invariant-loop
invariant-loop l = l.list ≡ replicate l.counter bounds.Unassigned
