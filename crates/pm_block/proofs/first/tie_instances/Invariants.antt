use Rattle.std.proofs.Common.{◌≡◌, drop}
use Rattle.pm_block.specs.First.{tied_from}
use Rattle.pm_block.proofs.first.tie_instances.Given as goal

-- the instances that are left lead from here where all led from the start
abbrev pub invariant-loop-i : goal.invariant-loop-i
invariant-loop-i g l = record {
  layout : g.P.Places.layout l.places ≡ g.P.Places.layout l.fn.places;
  held : g.P.Places.held l.places ≡ g.P.Places.held l.fn.places;
  values : tied_from l.plan l.i (drop l.i l.plan.instances) (g.P.Places.at l.places) ≡ tied_from l.plan 0 l.plan.instances (g.P.Places.at l.fn.places);
}
