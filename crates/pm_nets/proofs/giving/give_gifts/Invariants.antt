use Rattle.std.proofs.Common.{◌≡◌, flat_map, take}
use Rattle.pm_instances.specs.Laid.{laid_out}
use Rattle.pm_nets.specs.Givers.{Gives, gift_givers}
use Rattle.pm_nets.proofs.giving.give_gifts.Given as goal

abbrev pub invariant-loop-gift : goal.invariant-loop-gift
invariant-loop-gift l =
    (l.sets ≡ l.fn.sets)
    × Gives l.fn.sets l.fn.first l.first l.fn.least l.found
    (flat_map (gift_givers (laid_out l.fn.design) l.fn.i) (take l.gift-index l.gifts))
