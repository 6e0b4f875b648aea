use Rattle.std.proofs.Common.{rules, ◌<◌, ◌^◌, ap, arith, length}
use Rattle.pm_design.specs.declared.design.Kind.{Kind}
use Rattle.pm_instances.specs.Laid.{laid_out}
use Rattle.pm_callees.proofs.Counting.{instance_counted}
use Rattle.pm_callees.proofs.Placing.{instance_there}
use Rattle.pm_callees.proofs.SiteNumbers.{few_ends}
use Rattle.pm_callees.proofs.tally.count_instance.Goals as goal

pub overflow_cast-method-end : goal.overflow_cast-method-end
overflow_cast-method-end c =
    let few = few_ends c.args.design.now c.args.site.now c.requires.site c.args.i
    (instance_there c.args.design.now c.args.site.now c.requires.site c.args.i c.requires.instance) in
    let same = ap (λ (k : Kind). length k.methods) c.instance_kind.ensures in
    let count = c.len-method-end.ensures in
    let all : c.args.site.now.count < 2 ^ 32 = c.requires.site.few in
    let low : c.len-method-end.result < 2 ^ 32 = omega arith in
    search (rules, low)

pub returns-clause-counted : goal.returns-clause-counted
returns-clause-counted c =
    instance_counted (laid_out c.args.design.now) c.args.sets.now c.args.i c.loop-method.method c.loop-method.tally
    (let same = ap (λ (k : Kind). length k.methods) c.instance_kind.ensures in
    let count = c.len-method-end.ensures in let end = c.loop-method-test.false in omega arith)
    c.loop-method.invariant.1
