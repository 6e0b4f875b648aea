use Rattle.std.proofs.Common.{◌≡◌, None, replicate}
use Rattle.pm_types.proofs.bodies.first_frame.Given as goal

abbrev pub invariant-loop : goal.invariant-loop
invariant-loop l = l.stored ≡ replicate l.counter None
