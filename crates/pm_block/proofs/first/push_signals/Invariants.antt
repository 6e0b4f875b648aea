use Rattle.std.proofs.Common.{◌≡◌, ◌++◌, drop}
use Rattle.std.specs.Prelude.{IsTrue}
use Rattle.std.specs.List.{list_all}
use Rattle.pm_design.specs.Layout.{signals_from}
use Rattle.pm_block.specs.Tables.{ends_below}
use Rattle.pm_block.proofs.first.push_signals.Given as goal

-- the signals so far, and those that are left
abbrev pub invariant-loop-signal : goal.invariant-loop-signal
invariant-loop-signal l = record {
  list : l.list.items ++ signals_from l.bit (drop l.signal-index l.signals) ≡ l.initial.list.items ++ signals_from l.first l.signals;
  ends : IsTrue (list_all ends_below (signals_from l.bit (drop l.signal-index l.signals)));
}
