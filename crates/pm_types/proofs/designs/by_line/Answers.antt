use Rattle.std.proofs.Common.{◌∙◌, rules}
use Rattle.std.proofs.lemmas.List.Sorted.{answers_always, IsNonDecreasingBy-from_sort_by_key}
use Rattle.pm_types.proofs.Drops.{take_all}
use Rattle.pm_types.proofs.SortedRefs.{line_of, in_line}
use Rattle.pm_types.proofs.designs.by_line.Goals as goal

pub returns : goal.returns
returns c =
    in_line c.args.bodies.now _ _ (c.loop-body.invariant ∙ take_all c.args.bodies.now c.loop-body.body-index c.loop-body-test.false)
    (IsNonDecreasingBy-from_sort_by_key line_of _ c.in_ok-sort_by_key.ensures.sorted (λ a r q k. search rules))
    (c.sort_by_key.ensures.stable line_of (answers_always _ _ _ (λ f a r g h. search rules)))
