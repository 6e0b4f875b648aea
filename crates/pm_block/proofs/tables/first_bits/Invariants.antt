use Rattle.std.proofs.Common.{◌≡◌, ◌++◌, drop}
use Rattle.std.specs.Prelude.{IsTrue}
use Rattle.std.specs.List.{list_all}
use Rattle.pm_design.specs.Instances.{first_bits_from}
use Rattle.pm_design.specs.Layout.{signals_from}
use Rattle.pm_block.specs.Tables.{ends_below}
use Rattle.pm_block.proofs.tables.first_bits.Given as goal

-- the first bits so far, and those that are left
abbrev pub invariant-loop-signal : goal.invariant-loop-signal
invariant-loop-signal l = record {
  bits : l.bits ++ first_bits_from l.bit (drop l.signal-index l.signals) ≡ first_bits_from l.first l.signals;
  ends : IsTrue (list_all ends_below (signals_from l.bit (drop l.signal-index l.signals)));
}
