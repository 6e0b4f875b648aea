use Rattle.disjoint_sets.proofs.Joining.{single_by}
use Rattle.disjoint_sets.proofs.Views.{roots_single, all_single}
use Rattle.disjoint_sets.proofs.sets.DisjointSets.new.Goals as goal

pub returns : goal.returns
returns c = single_by c.args.count _ (roots_single c.args.count c.loop-element.parents.items
    (all_single c.loop-element.element c.args.count c.loop-element.parents.items c.loop-element.invariant
    c.loop-element-test.false c.loop-element.auto.element-end))
