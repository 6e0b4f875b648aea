use Rattle.std.proofs.Common.{◌≡◌, ◌+◌, ◌≤◌, ◌^◌, drop}
use Rattle.pm_design.specs.Nodes.{body_nodes}
use Rattle.pm_work.specs.Work.{counted, nothing_inside}
use Rattle.pm_work.proofs.nodes.+statements.Given as goal

abbrev pub invariant-count_body-loop-st : goal.invariant-count_body-loop-st
invariant-count_body-loop-st l =
    (l.count ≤ 2 ^ 63)
    × (counted (l.count + body_nodes nothing_inside (drop l.st-index l.body))
    ≡ counted (l.fn.start + body_nodes nothing_inside l.body))
