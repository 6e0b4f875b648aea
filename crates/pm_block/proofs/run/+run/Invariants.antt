use Rattle.std.proofs.Common.{◌≡◌, ◌+◌, ◌*◌, ◌<◌, ◌≤◌, length, drop}
use Rattle.std.specs.Prelude.{IsTrue, true, false}
use Rattle.std.specs.List.{list_all}
use Rattle.pm_design.specs.Nodes.{body_nodes, statement_nodes}
use Rattle.pm_design.specs.Typing.{is_sound}
use Rattle.pm_block.specs.Assignments.{all_assignments}
use Rattle.pm_block.specs.Plans.{widths_of}
use Rattle.pm_block.specs.Run.{run_body}
use Rattle.pm_block.specs.Sites.{inside_here, scene_here, sight_here, state_here}
use Rattle.pm_block.specs.Waiting.{all_fit}
use Rattle.pm_block.proofs.run.+run.Given as goal

-- the nodes of the statement
abbrev pub decreases-run_one : goal.decreases-run_one
decreases-run_one g l = 2 * statement_nodes (inside_here l.site.now) l.st.now

-- the nodes of the statements
abbrev pub decreases-run_all : goal.decreases-run_all
decreases-run_all g l = 2 * body_nodes (inside_here l.site.now) l.body.now + 1

-- the rest of the body leads from here where the whole led from the start
abbrev pub invariant-run_all-loop-st : goal.invariant-run_all-loop-st
invariant-run_all-loop-st g l = record {
  layout : g.P.Places.layout l.places ≡ g.P.Places.layout l.fn.places;
  held : g.P.Places.held l.places ≡ g.P.Places.held l.fn.places;
  widths : widths_of l.temps ≡ widths_of l.fn.temps;
  same_room : l.waiting.room ≡ l.fn.waiting.room;
  count : length l.waiting.writes + all_assignments (drop l.st-index l.body) ≤ length l.fn.waiting.writes + all_assignments l.body;
  fits : IsTrue (all_fit (g.P.Places.layout l.places) l.waiting.writes);
  at_once : l.clocked ≡ false → l.waiting.writes ≡ l.fn.waiting.writes;
  still : l.clocked ≡ true → g.P.Places.at l.places ≡ g.P.Places.at l.fn.places;
  later : l.fn.steps ≤ l.steps;
  some : 0 < l.st-index → l.fn.steps < l.steps;
  cost : l.steps + body_nodes (inside_here l.site) (drop l.st-index l.body) ≤ l.fn.steps + body_nodes (inside_here l.site) l.body;
  sound : IsTrue (list_all (is_sound (sight_here l.site (g.P.Places.layout l.places) l.temps)) (drop l.st-index l.body));
  state : run_body l.clocked (scene_here l.site (g.P.Places.layout l.fn.places)) (drop l.st-index l.body) (state_here (g.P.Places.layout l.places) (g.P.Places.at l.places) (g.P.Places.held l.places) l.waiting.writes l.temps)
      ≡ run_body l.clocked (scene_here l.site (g.P.Places.layout l.fn.places)) l.body (state_here (g.P.Places.layout l.fn.places) (g.P.Places.at l.fn.places) (g.P.Places.held l.fn.places) l.fn.waiting.writes l.fn.temps);
}
