use Rattle.std.proofs.Common.{◌≡◌, flat_map, None}
use Rattle.std.specs.List.{range_with_len}
use Rattle.pm_instances.specs.Laid.{laid_out}
use Rattle.pm_nets.specs.Givers.{Gives, givers_in}
use Rattle.pm_nets.proofs.doubles.give_instances.Given as goal

abbrev pub invariant-loop-i : goal.invariant-loop-i
invariant-loop-i l =
    (l.sets ≡ l.fn.sets)
    × Gives l.fn.sets l.fn.first l.first None l.found
    (flat_map (givers_in (laid_out l.fn.design)) (range_with_len 0 l.i))
