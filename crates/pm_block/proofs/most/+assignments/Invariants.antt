use Rattle.std.proofs.Common.{◌≡◌, ◌+◌, ◌*◌, ◌≤◌, drop}
use Rattle.pm_design.specs.Nodes.{body_nodes, statement_nodes}
use Rattle.pm_block.specs.Assignments.{all_assignments}
use Rattle.pm_block.proofs.Mosts.{no_inside}
use Rattle.pm_block.proofs.most.+assignments.Given as goal

-- the nodes of the statement
abbrev pub decreases-assignments_in : goal.decreases-assignments_in
decreases-assignments_in l = 2 * statement_nodes no_inside l.st.now

-- the nodes of the statements
abbrev pub decreases-all_assignments_in : goal.decreases-all_assignments_in
decreases-all_assignments_in l = 2 * body_nodes no_inside l.body.now + 1

-- the assignments so far, and those that are left
abbrev pub invariant-all_assignments_in-loop-st : goal.invariant-all_assignments_in-loop-st
invariant-all_assignments_in-loop-st l = record {
  count : l.count + all_assignments (drop l.st-index l.body) ≡ all_assignments l.body;
  nodes : body_nodes no_inside (drop l.st-index l.body) ≤ body_nodes no_inside l.body;
}
