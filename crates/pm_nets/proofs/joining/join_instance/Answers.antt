use Rattle.std.proofs.Common.{rules, ◌≡◌, ◌∙◌, ◌<◌, ◌≤◌, ◌^◌, length, flat_map, ap, arith}
use Rattle.pm_design.specs.declared.design.Kind.{Kind}
use Rattle.pm_design.specs.Runnable.{kind_at}
use Rattle.pm_instances.specs.Laid.{laid_out}
use Rattle.pm_nets.specs.Links.{join_links, reset_link}
use Rattle.pm_nets.proofs.Joined.{element_more, reset_more, reset_all, instance_links}
use Rattle.pm_nets.proofs.Resets.{few_children}
use Rattle.pm_nets.proofs.joining.join_instance.Goals as goal

pub loop-join-preserved : goal.loop-join-preserved
loop-join-preserved c = (
  c.loop-join.invariant.0,
  element_more (join_links (laid_out c.args.design.now) c.args.i) c.args.sets.now c.loop-join.sets
      c.join_parts.new.sets
      c.as_slice-join-items.result.now c.loop-join.join-index _ c.loop-join-test.true c.loop-join.invariant.1
      c.join_parts.ensures,
)

pub overflow_cast-child-end : goal.overflow_cast-child-end
overflow_cast-child-end c =
    let few : length (kind_at (laid_out c.args.design.now) c.args.i).children ≤ 4095 =
    few_children c.args.design.now c.args.site.now c.requires.design c.requires.site c.args.i c.requires.instance
    in
    let same : length c.args.kind.now.children ≡ length (kind_at (laid_out c.args.design.now) c.args.i).children =
    ap (λ (k : Kind). length k.children) c.requires.kind in
    let count : c.len-child-end.result ≡ length c.args.kind.now.children = c.len-child-end.ensures in
    let low : c.len-child-end.result < 2 ^ 32 = omega arith in
    search (rules, low)

pub join_reset-requires-clause-number : goal.join_reset-requires-clause-number
join_reset-requires-clause-number c =
    let few : length (kind_at (laid_out c.args.design.now) c.args.i).children ≤ 4095 =
    few_children c.args.design.now c.args.site.now c.requires.design c.requires.site c.args.i c.requires.instance
    in
    let same : length c.args.kind.now.children ≡ length (kind_at (laid_out c.args.design.now) c.args.i).children =
    ap (λ (k : Kind). length k.children) c.requires.kind in
    let count : c.len-child-end.result ≡ length c.args.kind.now.children = c.len-child-end.ensures in
    let test : c.loop-child.child < c.len-child-end.result = c.loop-child-test.true in
    omega arith

pub loop-child-preserved : goal.loop-child-preserved
loop-child-preserved c =
    reset_more (reset_link (laid_out c.args.design.now) c.args.i)
    (flat_map (join_links (laid_out c.args.design.now) c.args.i)
    (kind_at (laid_out c.args.design.now) c.args.i).joins)
    c.args.sets.now c.loop-child.sets c.join_reset.new.sets c.loop-child.child c.loop-child.invariant
    c.join_reset.ensures

pub returns : goal.returns
returns c =
    instance_links (laid_out c.args.design.now) c.args.i c.args.sets.now c.loop-child.sets
    (reset_all (reset_link (laid_out c.args.design.now) c.args.i)
    (flat_map (join_links (laid_out c.args.design.now) c.args.i)
    (kind_at (laid_out c.args.design.now) c.args.i).joins)
    c.args.sets.now c.loop-child.sets c.loop-child.child c.len-child-end.result
    (length (kind_at (laid_out c.args.design.now) c.args.i).children) c.loop-child-test.false
    c.loop-child.auto.child-end
    (c.len-child-end.ensures ∙ ap (λ (k : Kind). length k.children) c.requires.kind) c.loop-child.invariant)
