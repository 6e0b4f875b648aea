use Rattle.std.proofs.Common.{◌≡◌, ◌+◌, ◌≤◌, ◌^◌, drop, map}
use Rattle.pm_design.specs.Nodes.{nodes}
use Rattle.pm_design.specs.Widths.{total}
use Rattle.pm_work.specs.Work.{counted, nothing_inside}
use Rattle.pm_work.proofs.nodes.+nodes.Given as goal

abbrev pub invariant-count_expressions-loop-ex : goal.invariant-count_expressions-loop-ex
invariant-count_expressions-loop-ex l =
    (l.count ≤ 2 ^ 63)
    × (counted (l.count + total (map (nodes nothing_inside.guard) (drop l.ex-index l.expressions)))
    ≡ counted (l.fn.start + total (map (nodes nothing_inside.guard) l.expressions)))
