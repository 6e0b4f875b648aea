use Rattle.std.proofs.Common.{◌≡◌, ◌+◌, ◌*◌, ◌≤◌, ◌++◌, drop, take}
use Rattle.std.specs.Prelude.{IsTrue}
use Rattle.std.specs.List.{list_all}
use Rattle.pm_design.specs.Nodes.{body_nodes, statement_nodes}
use Rattle.pm_design.specs.Typing.{Sight, is_sound}
use Rattle.pm_nets.specs.Written.{written_in}
use Rattle.pm_nets.proofs.Writing.{no_inside}
use Rattle.pm_nets.proofs.written.+written.Given as goal

-- the nodes of the statement
abbrev pub decreases-push_statement : goal.decreases-push_statement
decreases-push_statement l = 2 * statement_nodes no_inside l.st.now

-- the nodes of the statements
abbrev pub decreases-push_body : goal.decreases-push_body
decreases-push_body l = 2 * body_nodes no_inside l.body.now + 1

-- the parts so far, and those that are left
abbrev pub invariant-push_body-loop-st : goal.invariant-push_body-loop-st
invariant-push_body-loop-st l = record {
  parts : l.found.items ++ written_in (drop l.st-index l.body) ≡ l.fn.found.items ++ written_in l.body;
  sound : (s : Sight) → IsTrue (list_all (is_sound s) l.body) →
      IsTrue (list_all s.writes (written_in (take l.st-index l.body)));
  nodes : body_nodes no_inside (drop l.st-index l.body) ≤ body_nodes no_inside l.body;
}
