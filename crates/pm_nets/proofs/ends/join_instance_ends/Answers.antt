use Rattle.std.proofs.Common.{rules, ◌≡◌, ◌∙◌, ◌<◌, ◌≤◌, ◌^◌, length, flat_map, ap, arith}
use Rattle.pm_design.specs.declared.design.Kind.{Kind}
use Rattle.pm_design.specs.Runnable.{kind_at}
use Rattle.pm_instances.specs.Laid.{laid_out}
use Rattle.pm_nets.specs.Ends.{join_ends, reset_ends}
use Rattle.pm_nets.proofs.Joined.{element_more, reset_more, reset_all}
use Rattle.pm_nets.proofs.Ending.{instance_ends}
use Rattle.pm_nets.proofs.Resets.{few_children}
use Rattle.pm_nets.proofs.ends.join_instance_ends.Goals as goal

pub loop-join-preserved : goal.loop-join-preserved
loop-join-preserved c = (
  c.loop-join.invariant.0,
  element_more (join_ends (laid_out c.args.design.now) c.args.i) c.args.sets.now c.loop-join.sets
      c.join_part_ends.new.sets
      c.as_slice-join-items.result.now c.loop-join.join-index _ c.loop-join-test.true c.loop-join.invariant.1
      c.join_part_ends.ensures,
)

pub overflow_cast-child-end : goal.overflow_cast-child-end
overflow_cast-child-end c =
    let few : length (kind_at (laid_out c.args.design.now) c.args.i).children ≤ 4095 =
    few_children c.args.design.now c.args.site.now c.requires.design c.requires.site c.args.i c.requires.instance
    in
    let same : length c.args.kind.now.children ≡ length (kind_at (laid_out c.args.design.now) c.args.i).children =
    ap (λ (k : Kind). length k.children) c.requires.kind in
    let count : c.len-child-end.result ≡ length c.args.kind.now.children = c.len-child-end.ensures in
    let low : c.len-child-end.result < 2 ^ 32 = omega arith in
    search (rules, low)

pub join_reset_ends-requires-clause-number : goal.join_reset_ends-requires-clause-number
join_reset_ends-requires-clause-number c =
    let few : length (kind_at (laid_out c.args.design.now) c.args.i).children ≤ 4095 =
    few_children c.args.design.now c.args.site.now c.requires.design c.requires.site c.args.i c.requires.instance
    in
    let same : length c.args.kind.now.children ≡ length (kind_at (laid_out c.args.design.now) c.args.i).children =
    ap (λ (k : Kind). length k.children) c.requires.kind in
    let count : c.len-child-end.result ≡ length c.args.kind.now.children = c.len-child-end.ensures in
    let test : c.loop-child.child < c.len-child-end.result = c.loop-child-test.true in
    omega arith

pub loop-child-preserved : goal.loop-child-preserved
loop-child-preserved c =
    reset_more (reset_ends (laid_out c.args.design.now) c.args.i)
    (flat_map (join_ends (laid_out c.args.design.now) c.args.i)
    (kind_at (laid_out c.args.design.now) c.args.i).joins)
    c.args.sets.now c.loop-child.sets c.join_reset_ends.new.sets c.loop-child.child c.loop-child.invariant
    c.join_reset_ends.ensures

pub returns : goal.returns
returns c =
    instance_ends (laid_out c.args.design.now) c.args.i c.args.sets.now c.loop-child.sets
    (reset_all (reset_ends (laid_out c.args.design.now) c.args.i)
    (flat_map (join_ends (laid_out c.args.design.now) c.args.i)
    (kind_at (laid_out c.args.design.now) c.args.i).joins)
    c.args.sets.now c.loop-child.sets c.loop-child.child c.len-child-end.result
    (length (kind_at (laid_out c.args.design.now) c.args.i).children) c.loop-child-test.false
    c.loop-child.auto.child-end
    (c.len-child-end.ensures ∙ ap (λ (k : Kind). length k.children) c.requires.kind) c.loop-child.invariant)
