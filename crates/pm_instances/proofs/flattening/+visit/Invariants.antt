use Rattle.std.proofs.Common.{◌≡◌, drop}
use Rattle.pm_design.specs.Lookups.{kind_of}
use Rattle.pm_instances.specs.Adding.{below, place_of}
use Rattle.pm_instances.proofs.Visits.{GoesOn, of_rest}
use Rattle.pm_instances.proofs.flattening.+visit.Given as goal

abbrev pub decreases-visit : goal.decreases-visit
decreases-visit l = l.kind

abbrev pub invariant-loop-child : goal.invariant-loop-child
invariant-loop-child l =
    (l.child-items ≡ (kind_of l.fn.design l.fn.kind).children)
    × GoesOn l.fn.design l.fn.progress l.progress
    (below l.fn.design l.fn.parent l.fn.path (place_of l.fn.progress) l.fn.kind)
    (of_rest l.fn.design l.number l.fn.path l.progress (drop l.child-index l.child-items))
