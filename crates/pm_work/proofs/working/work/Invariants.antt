use Rattle.std.proofs.Common.{◌≡◌, ◌+◌, ◌≤◌, ◌^◌, drop, map}
use Rattle.pm_design.specs.Lookups.{kind_of}
use Rattle.pm_design.specs.Widths.{total}
use Rattle.pm_work.specs.Work.{counted, kind_nodes}
use Rattle.pm_work.proofs.working.work.Given as goal

abbrev pub invariant-loop-instance : goal.invariant-loop-instance
invariant-loop-instance l =
    (l.count ≤ 2 ^ 63)
    × (counted (l.count + total (map (λ i. kind_nodes (kind_of l.fn.design i.kind)) (drop l.instance-index l.instances)))
    ≡ counted (total (map (λ i. kind_nodes (kind_of l.fn.design i.kind)) l.instances)))
