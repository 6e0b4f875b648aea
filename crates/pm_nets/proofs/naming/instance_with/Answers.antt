use Rattle.std.proofs.Common.{◌<◌, subst, ℕ}
use Rattle.pm_nets.proofs.BitNames.{ends_before, ends_last}
use Rattle.pm_nets.proofs.naming.instance_with.Goals as goal

pub returns-then-flat-instance_at-clause-to : goal.returns-then-flat-instance_at-clause-to
returns-then-flat-instance_at-clause-to c =
    ends_before c.args.design.now c.args.site.now c.requires.design c.requires.site c.loop-next.next c.args.flat
    c.instance_at.result.now c.loop-next.invariant.0
    (subst (λ (n : ℕ). c.loop-next.next < n) c.len-next-end.ensures c.loop-next-test.true) c.instance_at.ensures
    c.if-flat-instance_at.true

pub returns-clause-to : goal.returns-clause-to
returns-clause-to c =
    ends_last c.args.design.now c.args.site.now c.requires.design c.requires.site c.len.result c.args.flat c.len.ensures
    c.requires.bit
