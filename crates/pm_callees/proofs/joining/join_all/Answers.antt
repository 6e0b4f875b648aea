use Rattle.std.proofs.Common.{◌<◌, ap, length, subst, ℕ, List, arith}
use Rattle.pm_design.specs.declared.plan.Instance.{Instance}
use Rattle.pm_instances.specs.Laid.{laid_out}
use Rattle.pm_callees.proofs.LinkLists.{all_joined, instance_joined}
use Rattle.pm_callees.proofs.Placing.{instance_there}
use Rattle.pm_callees.proofs.joining.join_all.Goals as goal

pub loop-i-preserved : goal.loop-i-preserved
loop-i-preserved c =
    instance_joined (laid_out c.args.design.now) c.args.site.now.count c.loop-i.i c.loop-i.sets
    c.join_instance.new.sets
    (instance_there c.args.design.now c.args.site.now c.requires.site c.loop-i.i
    (subst (λ (n : ℕ). c.loop-i.i < n) c.len-i-end.ensures c.loop-i-test.true))
    c.loop-i.invariant c.join_instance.ensures

pub returns : goal.returns
returns c =
    all_joined (laid_out c.args.design.now) c.args.site.now.count c.loop-i.i c.loop-i.sets
    (let size = c.len-i-end.ensures in let same = ap (λ (l : List Instance). length l) c.requires.site.instances in
    let end = c.loop-i-test.false in omega arith)
    c.loop-i.invariant
