use Rattle.std.proofs.Common.{◌≡◌, ◌+◌, ◌*◌, ◌≤◌, ◌++◌, drop}
use Rattle.pm_design.specs.Nodes.{body_nodes, statement_nodes}
use Rattle.pm_calls.specs.Called.{called_in}
use Rattle.pm_calls.proofs.Calling.{no_inside}
use Rattle.pm_calls.proofs.called.+called.Given as goal

-- the nodes of the statement
abbrev pub decreases-push_statement : goal.decreases-push_statement
decreases-push_statement l = 2 * statement_nodes no_inside l.st.now

-- the nodes of the statements
abbrev pub decreases-push_body : goal.decreases-push_body
decreases-push_body l = 2 * body_nodes no_inside l.body.now + 1

-- what is found so far, and what is left
abbrev pub invariant-push_body-loop-st : goal.invariant-push_body-loop-st
invariant-push_body-loop-st l =
    (l.found.items ++ called_in (drop l.st-index l.body) ≡ l.fn.found.items ++ called_in l.body)
    × (body_nodes no_inside (drop l.st-index l.body) ≤ body_nodes no_inside l.body)
