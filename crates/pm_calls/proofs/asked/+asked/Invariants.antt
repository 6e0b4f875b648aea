use Rattle.std.proofs.Common.{◌≡◌, ◌+◌, ◌*◌, ◌≤◌, ◌++◌, drop, map}
use Rattle.pm_design.specs.Nodes.{nodes}
use Rattle.pm_design.specs.Widths.{total}
use Rattle.pm_calls.specs.Asked.{all_asked}
use Rattle.pm_calls.proofs.Asking.{no_guard}
use Rattle.pm_calls.proofs.asked.+asked.Given as goal

-- the nodes of the expression
abbrev pub decreases-push_asked : goal.decreases-push_asked
decreases-push_asked l = 2 * nodes no_guard l.ex.now

-- the nodes of both
abbrev pub decreases-push_both : goal.decreases-push_both
decreases-push_both l = 2 * (nodes no_guard l.a.now + nodes no_guard l.b.now) + 1

-- the nodes of all
abbrev pub decreases-push_all : goal.decreases-push_all
decreases-push_all l = 2 * total (map (nodes no_guard) l.expressions.now) + 1

-- what is found so far, and what is left
abbrev pub invariant-push_all-loop-ex : goal.invariant-push_all-loop-ex
invariant-push_all-loop-ex l =
    (l.found.items ++ all_asked (drop l.ex-index l.expressions) ≡ l.fn.found.items ++ all_asked l.expressions)
    × (total (map (nodes no_guard) (drop l.ex-index l.expressions)) ≤ total (map (nodes no_guard) l.expressions))
