use Rattle.std.proofs.Common.{◌≡◌, map}
use Rattle.std.specs.List.{range_with_len}
use Rattle.pm_instances.specs.Laid.{laid_out}
use Rattle.pm_nets.specs.Ends.{end_of}
use Rattle.pm_nets.specs.Givers.{Gives}
use Rattle.pm_nets.proofs.giving.give_gift.Given as goal

abbrev pub invariant-loop-t : goal.invariant-loop-t
invariant-loop-t l =
    (l.sets ≡ l.fn.sets)
    × Gives l.fn.sets l.fn.first l.first l.fn.least l.found
    (map (λ t. record { source = l.fn.gift.source; end = end_of (laid_out l.fn.design) l.fn.i l.fn.gift.part t })
    (range_with_len 0 l.t))
