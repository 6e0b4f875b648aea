use Rattle.disjoint_sets.proofs.Views.{IsSingle}
use Rattle.disjoint_sets.proofs.sets.DisjointSets.new.Given as goal

abbrev pub invariant-loop-element : goal.invariant-loop-element
invariant-loop-element l = IsSingle l.element l.parents.items
