use Rattle.std.proofs.Common.{◌∙◌, sym}
use Rattle.pm_subtree.proofs.Searches.{ends_here, found_is, nothing_is, one_more, not_named, nowhere, some_left}
use Rattle.pm_subtree.proofs.searching.+kind_below.Goals as goal
use Rattle.pm_subtree.proofs.searching.+kind_below.Goals.{in-Some+else-is_some, in_default}

pub returns-then-is_empty : goal.returns-then-is_empty
returns-then-is_empty t c =
    ends_here c.args.design.now c.args.kind c.args.rest.now (sym c.is_empty.ensures ∙ c.if-is_empty.true)

pub returns-then-is_some : goal.returns-then-is_some
returns-then-is_some t c =
    found_is c.args.design.now c.args.kind c.args.rest.now c.as_slice-child-items.result.now c.loop-child.child-index
    c.child-item.result c.as_slice-in-loop-child.result.now c.in-Some.below.now c.kind_below-found.result
    c.loop-child.invariant.0 c.loop-child-test.true c.child-item.is c.as_slice-in-loop-child.ensures c.in-Some.ensures
    c.kind_below-found.ensures (sym c.is_some.ensures ∙ c.if-is_some.true)

pub loop-child-preserved : goal.loop-child-preserved
loop-child-preserved t c = (
  c.loop-child.invariant.0,
  one_more c.args.design.now c.args.rest.now c.as_slice-child-items.result.now c.loop-child.child-index
      c.child-item.result c.loop-child-test.true c.child-item.is c.loop-child.invariant.1
      (elim c.match-behind_name.branch [
        | in-Some+else-is_some w ↦ nothing_is c.args.design.now c.args.rest.now c.child-item.result
            c.as_slice-in-loop-child.result.now w.in-Some.below.now w.kind_below-found.result
            c.as_slice-in-loop-child.ensures w.in-Some.ensures w.kind_below-found.ensures
            (sym w.is_some.ensures ∙ w.if-is_some.false)
        | in_default w ↦ not_named c.args.design.now c.args.rest.now c.child-item.result
            c.as_slice-in-loop-child.result.now c.as_slice-in-loop-child.ensures w.in_default.ensures
      ]),
)

pub returns : goal.returns
returns t c =
    nowhere c.args.design.now c.args.kind c.args.rest.now c.as_slice-child-items.result.now c.loop-child.child-index
    c.loop-child.invariant.0 c.loop-child-test.false (some_left c.args.rest.now (sym c.is_empty.ensures ∙ c.if-is_empty.false))
    c.loop-child.invariant.1
