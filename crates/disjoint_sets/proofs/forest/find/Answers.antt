use Rattle.disjoint_sets.proofs.Roots.{goes_up, gone_up}
use Rattle.disjoint_sets.proofs.forest.find.Goals as goal

pub loop-parents-preserved : goal.loop-parents-preserved
loop-parents-preserved c = goes_up c.args.parents.now c.loop-parents.parents c.args.element c.loop-parents.at
    c.loop-parents.invariant

pub returns-clause-value : goal.returns-clause-value
returns-clause-value c = gone_up c.args.parents.now c.loop-parents.parents c.args.element c.loop-parents.at
    c.loop-parents.invariant c.loop-parents-test.false
