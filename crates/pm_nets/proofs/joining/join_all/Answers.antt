use Rattle.std.proofs.Common.{◌∙◌, ◌<◌, List, ap, get_or, length, subst, sym}
use Rattle.pm_design.specs.declared.design.Kind.{Kind}
use Rattle.pm_instances.specs.Laid.{laid_out}
use Rattle.pm_nets.specs.Links.{links_in}
use Rattle.pm_nets.proofs.Joined.{partition_more, partition_all}
use Rattle.pm_nets.proofs.Resets.{kind_known, kind_found}
use Rattle.pm_nets.proofs.joining.join_all.Goals as goal

pub bounds-as_slice-instance_at : goal.bounds-as_slice-instance_at
bounds-as_slice-instance_at c =
    subst (λ (l : List Kind). c.instance_at.result.now.kind < length l) (sym c.as_slice.ensures)
    (kind_known c.args.design.now c.args.site.now c.requires.design c.requires.site c.loop-i.i
    c.instance_at.result.now
    (subst (λ (n : _). c.loop-i.i < n) c.len-i-end.ensures c.loop-i-test.true) c.instance_at.ensures)

pub join_instance-requires-clause-kind : goal.join_instance-requires-clause-kind
join_instance-requires-clause-kind c =
    kind_found c.args.design.now c.args.site.now c.requires.design c.requires.site c.loop-i.i c.instance_at.result.now
    c.index-as_slice-instance_at.result (subst (λ (n : _). c.loop-i.i < n) c.len-i-end.ensures c.loop-i-test.true)
    c.instance_at.ensures
    (c.index-as_slice-instance_at.is ∙ ap (λ (l : List Kind).
    get_or l c.instance_at.result.now.kind c.index-as_slice-instance_at.result) c.as_slice.ensures)

pub loop-i-preserved : goal.loop-i-preserved
loop-i-preserved c =
    partition_more _ c.loop-i.i (links_in (laid_out c.args.design.now)) c.loop-i.sets c.join_instance.new.sets
    c.loop-i.invariant
    c.join_instance.ensures

pub returns : goal.returns
returns c =
    partition_all c.args.design.now c.args.site.now c.requires.site c.loop-i.i c.len-i-end.result c.loop-i.sets
    c.loop-i-test.false
    c.loop-i.auto.i-end c.len-i-end.ensures c.loop-i.invariant
