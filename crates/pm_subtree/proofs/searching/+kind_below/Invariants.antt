use Rattle.std.proofs.Common.{◌≡◌, take}
use Rattle.pm_design.specs.Lookups.{kind_of}
use Rattle.pm_subtree.specs.Ways.{LeadsByNone}
use Rattle.pm_subtree.proofs.searching.+kind_below.Given as goal

abbrev pub decreases-kind_below : goal.decreases-kind_below
decreases-kind_below l = l.kind

abbrev pub invariant-loop-child : goal.invariant-loop-child
invariant-loop-child l =
    (l.child-items ≡ (kind_of l.fn.design l.fn.kind).children)
    × LeadsByNone l.fn.design (take l.child-index l.child-items) l.fn.rest
