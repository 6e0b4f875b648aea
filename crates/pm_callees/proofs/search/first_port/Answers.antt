use Rattle.std.proofs.Common.{ap, arith, length, List}
use Rattle.pm_design.specs.declared.plan.Instance.{Instance}
use Rattle.pm_instances.specs.Laid.{laid_out}
use Rattle.pm_callees.proofs.Searching.{none_all}
use Rattle.pm_callees.proofs.search.first_port.Goals as goal

pub returns-clause-found : goal.returns-clause-found
returns-clause-found c =
    none_all (laid_out c.args.design.now) c.args.sets.now c.args.tally.now c.args.wanted c.loop-instance.instance
    (let size = c.len-instance-end.ensures in
    let same = ap (λ (l : List Instance). length l) c.requires.site.instances in
    let end = c.loop-instance-test.false in omega arith)
    c.loop-instance.invariant.1
