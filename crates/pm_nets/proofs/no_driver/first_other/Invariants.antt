use Rattle.std.proofs.Common.{◌≡◌}
use Rattle.pm_nets.specs.Drivers.{IsFirstBelow}
use Rattle.pm_nets.proofs.no_driver.first_other.Given as goal

abbrev pub invariant-loop-bit : goal.invariant-loop-bit
invariant-loop-bit l = (l.sets ≡ l.fn.sets) × IsFirstBelow l.fn.sets l.driven l.bit l.least
