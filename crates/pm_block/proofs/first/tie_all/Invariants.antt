use Rattle.std.proofs.Common.{◌≡◌, drop}
use Rattle.pm_block.specs.First.{tied_in}
use Rattle.pm_block.proofs.first.tie_all.Given as goal

-- the ties that are left lead from here where all led from the start
abbrev pub invariant-loop-t : goal.invariant-loop-t
invariant-loop-t g l = record {
  layout : g.P.Places.layout l.places ≡ g.P.Places.layout l.fn.places;
  held : g.P.Places.held l.places ≡ g.P.Places.held l.fn.places;
  values : tied_in l.scope (g.P.Places.layout l.fn.places) (drop l.t-index l.ties) (g.P.Places.at l.places) ≡ tied_in l.scope (g.P.Places.layout l.fn.places) l.ties (g.P.Places.at l.fn.places);
}
