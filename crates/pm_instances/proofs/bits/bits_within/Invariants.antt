use Rattle.std.proofs.Common.{◌≡◌, ◌+◌, drop, get_or, map}
use Rattle.pm_design.specs.Widths.{total}
use Rattle.pm_instances.proofs.bits.bits_within.Given as goal

abbrev pub invariant-loop-child : goal.invariant-loop-child
invariant-loop-child l =
    l.bits + total (map (λ c. get_or l.below c.kind 0) (drop l.child-index l.children))
    ≡ total (map (λ c. get_or l.below c.kind 0) l.children)
