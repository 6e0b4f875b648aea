use Rattle.std.proofs.Common.{◌≡◌, drop}
use Rattle.pm_block.specs.Waiting.{settled}
use Rattle.pm_block.proofs.run.settle.Given as goal

-- what is left does from here what all did from the start
abbrev pub invariant-loop-write : goal.invariant-loop-write
invariant-loop-write g l = record {
  layout : g.P.Places.layout l.places ≡ g.P.Places.layout l.fn.places;
  held : g.P.Places.held l.places ≡ g.P.Places.held l.fn.places;
  values : settled (g.P.Places.layout l.fn.places) (drop l.write-index l.write-items) (g.P.Places.at l.places) ≡ settled (g.P.Places.layout l.fn.places) l.write-items (g.P.Places.at l.fn.places);
}
