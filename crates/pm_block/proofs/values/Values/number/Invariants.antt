use Rattle.std.proofs.Common.{◌≡◌, ◌<◌, ◌^◌}
use Rattle.pm_design.specs.Layout.{net_from}
use Rattle.pm_block.specs.Places.{number_at}
use Rattle.pm_block.specs.Stored.{at_of}
use Rattle.pm_block.proofs.values.Values.number.Given as goal

-- the low bits of the part so far
abbrev pub invariant-loop-i : goal.invariant-loop-i
invariant-loop-i l = record {
  value : l.number ≡ number_at (net_from l.self.layout l.part.bit) l.i (at_of l.self.bits);
  fits : l.number < 2 ^ l.i;
}
