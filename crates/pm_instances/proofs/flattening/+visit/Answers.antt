use Rattle.std.proofs.Common.{rules, ◌≡◌, ◌∙◌, ◌<◌, ◌^◌, ◌++◌, ℕ, List, codes, length, ap, subst}
use Rattle.std.proofs.Common.{arith}
use Rattle.pm_instances.proofs.Visits.{own_added, child_room, child_added, few_so_far}
use Rattle.pm_instances.proofs.Visits.{own_bits_fit, child_before}
use Rattle.pm_instances.proofs.flattening.+visit.Goals as goal

pub overflow_cast-number : goal.overflow_cast-number
overflow_cast-number t c =
    let few : length c.args.progress.now.instances.items < 4096 =
    few_so_far c.args.design.now c.requires.design c.args.parent c.args.path.now c.args.kind c.args.progress.now
    c.requires.kind c.requires.room in
    let is : c.len-number.result ≡ length c.args.progress.now.instances.items = c.len-number.ensures ∙
    c.args.progress.now.instances.ok.0 in
    let low : c.len-number.result < 2 ^ 32 = omega arith in
    search (rules, low)

pub add_one-requires-clause-instances : goal.add_one-requires-clause-instances
add_one-requires-clause-instances t c =
    few_so_far c.args.design.now c.requires.design c.args.parent c.args.path.now c.args.kind c.args.progress.now
    c.requires.kind c.requires.room

pub add_one-requires-clause-bits : goal.add_one-requires-clause-bits
add_one-requires-clause-bits t c =
    own_bits_fit c.args.design.now c.requires.design c.args.parent c.args.path.now c.args.kind c.args.progress.now
    c.requires.kind c.requires.room

pub loop-child-init : goal.loop-child-init
loop-child-init t c =
    let is = c.as_slice-child-items.ensures ∙ ap (λ (k : _). k.children) c.kind_at.ensures in (
      is,
      own_added c.args.design.now c.requires.design c.args.parent c.args.path.now c.args.kind c.len-number.result
          c.args.progress.now c.add_one.new.progress c.as_slice-child-items.result.now c.requires.kind c.requires.room
          (c.len-number.ensures ∙ c.args.progress.now.instances.ok.0) is c.in_ok-add_one.ensures,
    )

pub visit-requires : goal.visit-requires
visit-requires t c =
    let before : c.child-item.result.kind < c.args.kind =
    child_before c.args.design.now c.requires.design c.args.kind c.loop-child.child-index
    c.as_slice-child-items.result.now
    c.child-item.result c.requires.kind c.loop-child.invariant.0 c.loop-child-test.true c.child-item.is in
    let known : c.args.kind < length c.args.design.now.kinds = c.requires.kind in
    let less : c.child-item.result.kind < length c.args.design.now.kinds = omega arith in
    let named = c.as_slice-in-loop-child.ensures.value ∙ (c.in_ok-name.ensures ∙
    ap (λ (n : List ℕ). c.args.path.now ++ codes "." ++ n) c.as_slice.ensures) in (
      subst (λ (n : ℕ). c.child-item.result.kind < n) c.decreases before,
      (
        c.requires.design,
        (
          less,
          child_room c.args.design.now c.len-number.result c.args.path.now c.as_slice-in-loop-child.result.now
              c.args.progress.now
              c.loop-child.progress _ c.as_slice-child-items.result.now c.loop-child.child-index c.child-item.result
              c.requires.room
              c.loop-child-test.true c.child-item.is named c.loop-child.invariant.1,
        ),
      ),
    )

pub loop-child-preserved : goal.loop-child-preserved
loop-child-preserved t c =
    let named = c.as_slice-in-loop-child.ensures.value ∙ (c.in_ok-name.ensures ∙
    ap (λ (n : List ℕ). c.args.path.now ++ codes "." ++ n) c.as_slice.ensures) in (
      c.loop-child.invariant.0,
      child_added c.args.design.now c.requires.design c.len-number.result c.args.path.now
          c.as_slice-in-loop-child.result.now
          c.args.progress.now c.loop-child.progress c.visit.new.progress _ c.as_slice-child-items.result.now
          c.loop-child.child-index c.child-item.result c.loop-child-test.true c.child-item.is named
          c.loop-child.invariant.1
          c.in_ok-visit.ensures,
    )
