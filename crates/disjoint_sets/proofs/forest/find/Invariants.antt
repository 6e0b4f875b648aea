use Rattle.disjoint_sets.proofs.forest.find.Given as goal
use Rattle.disjoint_sets.proofs.Roots.{GoesUp}

abbrev pub invariant-loop-parents : goal.invariant-loop-parents
invariant-loop-parents l = GoesUp l.fn.parents l.parents l.fn.element l.at

abbrev pub decreases-loop-parents : goal.decreases-loop-parents
decreases-loop-parents l = l.at
