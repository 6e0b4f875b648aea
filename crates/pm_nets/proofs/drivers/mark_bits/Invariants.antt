use Rattle.std.proofs.Common.{◌≡◌}
use Rattle.pm_nets.specs.Drivers.{Marks, bits_from}
use Rattle.pm_nets.proofs.drivers.mark_bits.Given as goal

abbrev pub invariant-loop-t : goal.invariant-loop-t
invariant-loop-t l = (l.sets ≡ l.fn.sets) × Marks l.fn.sets l.fn.driven l.driven (bits_from l.fn.first l.t)
