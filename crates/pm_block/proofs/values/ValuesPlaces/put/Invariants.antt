use Rattle.std.proofs.Common.{◌≡◌}
use Rattle.pm_design.specs.Layout.{net_from}
use Rattle.pm_block.specs.Places.{put_at}
use Rattle.pm_block.specs.Stored.{at_of}
use Rattle.pm_block.proofs.values.ValuesPlaces.put.Given as goal

-- the low bits of the word have been put so far
abbrev pub invariant-loop-i : goal.invariant-loop-i
invariant-loop-i l = record {
  same : l.self.layout ≡ l.initial.self.layout;
  held : l.self.held ≡ l.initial.self.held;
  value : at_of l.self.bits ≡ put_at (net_from l.initial.self.layout l.part.bit) l.i l.fn.value (at_of l.initial.self.bits);
}
