use Rattle.std.proofs.Common.{◌≡◌, ◌++◌, drop}
use Rattle.pm_nets.specs.Givers.{given_by}
use Rattle.pm_nets.proofs.gifts.push_given.Given as goal

abbrev pub invariant-loop-part : goal.invariant-loop-part
invariant-loop-part l =
    l.gifts.items ++ given_by l.source (drop l.part-index l.parts) ≡ l.fn.gifts.items ++ given_by l.source l.parts
