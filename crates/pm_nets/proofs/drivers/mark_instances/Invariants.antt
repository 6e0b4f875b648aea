use Rattle.std.proofs.Common.{◌≡◌, flat_map}
use Rattle.std.specs.List.{range_with_len}
use Rattle.pm_instances.specs.Laid.{laid_out}
use Rattle.pm_nets.specs.Drivers.{Marks, drivers_in}
use Rattle.pm_nets.proofs.drivers.mark_instances.Given as goal

abbrev pub invariant-loop-i : goal.invariant-loop-i
invariant-loop-i l =
    (l.sets ≡ l.fn.sets)
    × Marks l.fn.sets l.fn.driven l.driven (flat_map (drivers_in (laid_out l.fn.design)) (range_with_len 0 l.i))
