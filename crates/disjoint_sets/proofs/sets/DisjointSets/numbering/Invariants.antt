use Rattle.disjoint_sets.proofs.Numbered.{AreNumbered}
use Rattle.disjoint_sets.proofs.sets.DisjointSets.numbering.Given as goal

abbrev pub invariant-loop-element : goal.invariant-loop-element
invariant-loop-element l = AreNumbered l.self-inside.parents.items l.numbers.items l.element l.count
