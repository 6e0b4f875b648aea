use Rattle.std.proofs.Common.{◌≡◌, ◌+◌, ◌++◌, drop, map}
use Rattle.pm_design.specs.Instances.{numbers_from}
use Rattle.pm_design.specs.Lookups.{kind_of}
use Rattle.pm_design.specs.Widths.{total}
use Rattle.pm_instances.proofs.flattening.child_numbers.Given as goal

abbrev pub invariant-loop-child : goal.invariant-loop-child
invariant-loop-child l =
    (l.numbers ++ numbers_from l.design l.number (drop l.child-index l.children) ≡ numbers_from l.design l.first
    l.children)
    × (l.number + total (map (λ c. (kind_of l.design c.kind).instances) (drop l.child-index l.children))
    ≡ l.first + total (map (λ c. (kind_of l.design c.kind).instances) l.children))
