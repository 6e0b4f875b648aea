use Rattle.disjoint_sets.proofs.Roots.{hung_less, hung_more}
use Rattle.std.proofs.Common.{arith}
use Rattle.disjoint_sets.proofs.forest.join_roots.Goals as goal

pub returns-then-a-b-clause-united : goal.returns-then-a-b-clause-united
returns-then-a-b-clause-united c = hung_less c.args.parents.now c.args.a c.args.b c.requires.forest c.requires.below.1
    (omega (arith, c.if-a-b.true)) c.requires.rooted.0 c.requires.rooted.1

pub returns-else-a-b-clause-united : goal.returns-else-a-b-clause-united
returns-else-a-b-clause-united c = hung_more c.args.parents.now c.args.a c.args.b c.requires.forest c.requires.below.0
    (omega (arith, c.if-a-b.false)) c.requires.rooted.0 c.requires.rooted.1
