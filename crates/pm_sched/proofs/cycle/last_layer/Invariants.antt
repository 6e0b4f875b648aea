use Rattle.std.proofs.Common.{◌≡◌, ◌<◌, ℕ, false}
use Rattle.pm_cons.specs.Walks.{walks}
use Rattle.pm_sched.specs.Cycles.{AreLayers}
use Rattle.pm_sched.specs.Tables.{precedence_in}
use Rattle.pm_sched.proofs.cycle.last_layer.Given as goal

abbrev pub invariant-loop-layer : goal.invariant-loop-layer
invariant-loop-layer l = record {
  rows : l.layers.rows ≡ l.predecessors.rows;
  columns : l.layers.columns ≡ l.predecessors.columns;
  layers : l.layer < l.predecessors.rows → AreLayers l.predecessors l.layers l.block l.layer;
  shorter : (j : ℕ) → j < l.layer → walks j (precedence_in l.predecessors) l.block l.block ≡ false;
}
