use Rattle.std.proofs.Common.{◌∙◌, ◌<◌, List, length, subst}
use Rattle.pm_design.specs.declared.plan.Instance.{Instance}
use Rattle.pm_instances.specs.Laid.{laid_out}
use Rattle.pm_callees.proofs.Placing.{item_is, item_known}
use Rattle.pm_callees.proofs.SiteNumbers.{count_more, firsts_more}
use Rattle.pm_callees.proofs.numbering.firsts.Goals as goal

pub behind_instance-requires : goal.behind_instance-requires
behind_instance-requires c =
    item_known c.args.design.now c.requires.design c.args.instances.now c.requires.instances
    c.loop-instance.instance-index c.instance-item.result c.loop-instance-test.true c.instance-item.is

pub loop-instance-preserved : goal.loop-instance-preserved
loop-instance-preserved c = (
  c.in_ok-push.ensures.ok ∙ firsts_more (laid_out c.args.design.now) c.loop-instance.instance-index
      c.loop-instance.count c.loop-instance.firsts c.loop-instance.invariant.0 c.loop-instance.invariant.1,
  count_more (laid_out c.args.design.now) c.loop-instance.instance-index c.loop-instance.count c.in_ok-count.count
      c.instance-item.result
      (subst (λ (l : List Instance). c.loop-instance.instance-index < length l) c.requires.instances
      c.loop-instance-test.true)
      (item_is c.args.design.now c.args.instances.now c.requires.instances c.loop-instance.instance-index
      c.instance-item.result c.loop-instance-test.true c.instance-item.is)
      c.loop-instance.invariant.1 c.in_ok-count.ensures,
)
