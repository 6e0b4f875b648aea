use Rattle.std.proofs.Common.{◌≡◌, None, replicate}
use Rattle.pm_types.proofs.filling.no_guards.Given as goal

abbrev pub invariant-loop : goal.invariant-loop
invariant-loop l = l.slots ≡ replicate l.counter None
