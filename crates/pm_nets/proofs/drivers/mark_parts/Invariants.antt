use Rattle.std.proofs.Common.{◌≡◌, flat_map, take}
use Rattle.pm_instances.specs.Laid.{laid_out}
use Rattle.pm_nets.specs.Drivers.{Marks, part_bits}
use Rattle.pm_nets.proofs.drivers.mark_parts.Given as goal

abbrev pub invariant-loop-part : goal.invariant-loop-part
invariant-loop-part l =
    (l.sets ≡ l.fn.sets)
    × Marks l.fn.sets l.fn.driven l.driven
    (flat_map (part_bits (laid_out l.fn.design) l.fn.i) (take l.part-index l.parts))
