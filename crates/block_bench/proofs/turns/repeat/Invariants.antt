use Rattle.std.proofs.Common.{◌≡◌, ◌+◌, ◌*◌, ◌≤◌}
use Rattle.std.specs.Prelude.{IsTrue}
use Rattle.pm_block.specs.Places.{is_tidy}
use Rattle.block_bench.proofs.turns.repeat.Given as goal

-- so many runs took at most six steps each
abbrev pub invariant-loop-turn : goal.invariant-loop-turn
invariant-loop-turn g l = record {
  layout : l.values.layout ≡ l.fn.values.layout;
  tidy : IsTrue (is_tidy l.values.held);
  temps : l.temps ≡ l.fn.temps;
  steps : l.steps ≤ l.fn.steps + 6 * l.turn;
}
