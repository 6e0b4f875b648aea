use Rattle.std.proofs.Common.{◌≡◌, ◌++◌, drop}
use Rattle.pm_nets.specs.Givers.{tie_gifts}
use Rattle.pm_nets.proofs.gifts.push_ties.Given as goal

abbrev pub invariant-loop-number : goal.invariant-loop-number
invariant-loop-number l =
    l.gifts.items ++ tie_gifts l.number (drop l.number l.ties) ≡ l.fn.gifts.items ++ tie_gifts 0 l.ties
