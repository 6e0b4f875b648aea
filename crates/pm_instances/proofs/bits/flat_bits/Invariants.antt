use Rattle.std.proofs.Common.{◌≡◌, length}
use Rattle.pm_instances.specs.BitsBelow.{AreBits}
use Rattle.pm_instances.proofs.bits.flat_bits.Given as goal

abbrev pub invariant-loop : goal.invariant-loop
invariant-loop l = (length l.below.items ≡ l.counter) × AreBits l.design l.below.items
