use Rattle.std.proofs.Common.{rules, ◌≡◌, ◌∙◌, ◌+◌, ◌<◌, ◌≤◌, ◌^◌, ap, subst, sym, length, ℕ, List, map}
use Rattle.pm_design.specs.Lookups.{kind_of}
use Rattle.pm_design.specs.declared.plan.Instance.{Instance}
use Rattle.pm_design.specs.Widths.{total}
use Rattle.pm_work.specs.Work.{counted, kind_nodes, work_of}
use Rattle.pm_work.proofs.Counting.{counted_low, counted_other, each_end, each_more}
use Rattle.pm_work.proofs.Instances.{count_read, counts_long, kind_known}
use Rattle.pm_work.proofs.working.work.Goals as goal

pub index-requires : goal.index-requires
index-requires c =
    let known : c.instance-item.result.kind < length c.args.design.now.kinds =
    kind_known c.args.design.now c.args.instances.now c.requires.design c.requires.instances
    c.loop-instance.instance-index
    c.instance-item.result c.loop-instance-test.true c.instance-item.is in
    let long : length c.in_ok-counts.counts.items ≡ length c.args.design.now.kinds =
    counts_long c.args.design.now c.in_ok-counts.counts.items c.in_ok-counts.ensures in
    let size = c.in_ok-counts.counts.ok.0 in
    search (rules, known, long, size)

pub loop-instance-preserved : goal.loop-instance-preserved
loop-instance-preserved c =
    let known : c.instance-item.result.kind < length c.args.design.now.kinds =
    kind_known c.args.design.now c.args.instances.now c.requires.design c.requires.instances
    c.loop-instance.instance-index
    c.instance-item.result c.loop-instance-test.true c.instance-item.is in
    let read : c.index.result.now ≡ counted (kind_nodes (kind_of c.args.design.now c.instance-item.result.kind)) =
    count_read c.args.design.now c.in_ok-counts.counts.items c.instance-item.result.kind c.index.result.now
    c.in_ok-counts.ensures known c.index.ensures in
    let next : c.add-count.result
    ≡ counted (c.loop-instance.count + kind_nodes (kind_of c.args.design.now c.instance-item.result.kind)) =
    c.add-count.ensures
    ∙ (ap (λ (n : ℕ). counted (c.loop-instance.count + n)) read
    ∙ counted_other c.loop-instance.count (kind_nodes (kind_of c.args.design.now c.instance-item.result.kind))) in (
      subst (λ (n : ℕ). n ≤ 2 ^ 63) (sym next)
          (counted_low (c.loop-instance.count + kind_nodes (kind_of c.args.design.now c.instance-item.result.kind))),
      each_more (λ (i : Instance). kind_nodes (kind_of c.args.design.now i.kind)) c.args.instances.now
          c.loop-instance.instance-index c.loop-instance.count c.add-count.result _ c.instance-item.result
          c.loop-instance-test.true
          c.instance-item.is c.loop-instance.invariant.1 next,
    )

pub returns : goal.returns
unfolding work_of
returns c =
    each_end (λ (i : Instance). kind_nodes (kind_of c.args.design.now i.kind)) _ c.loop-instance.instance-index
    c.loop-instance.count
    _ c.loop-instance-test.false c.loop-instance.invariant.0 c.loop-instance.invariant.1
    ∙ ap (λ (l : List Instance). counted (total (map (λ i. kind_nodes (kind_of c.args.design.now i.kind)) l))) c.requires.instances
