use Rattle.std.proofs.Common.{◌≡◌, ◌∙◌, ◌<◌, ◌≤◌, ℕ, List, length, sym, ap, subst, arith}
use Rattle.disjoint_sets.proofs.Joining.{numbered_by}
use Rattle.disjoint_sets.proofs.Numbered.{AreNumbered, none_numbered, root_pushed, other_pushed, all_numbered}
use Rattle.disjoint_sets.proofs.Numbered.{all_counted}
use Rattle.disjoint_sets.specs.Unions.{numbers_of}
use Rattle.disjoint_sets.proofs.sets.DisjointSets.numbering.Goals as goal
use Rattle.disjoint_sets.proofs.sets.DisjointSets.numbering.Goals.{then-above-element+in_ok-push}
use Rattle.disjoint_sets.proofs.sets.DisjointSets.numbering.Goals.{else-above-element+in_ok-push-2}

between : (k n m : ℕ) → n ≤ k → k ≤ n → n ≡ m → k ≡ m
between k n m a b e = omega arith

pub loop-element-init : goal.loop-element-init
loop-element-init c = subst (λ (l : List ℕ). AreNumbered c.self.inside.parents.items l 0 0)
    (sym c.in_ok-numbers.ensures.items) (none_numbered c.self.inside.parents.items)

pub loop-element-preserved : goal.loop-element-preserved
loop-element-preserved c = elim c.if-above-element.branch [
  | then-above-element+in_ok-push w ↦ root_pushed c.self.inside.parents.items c.loop-element.numbers.items
      c.if-above-element.numbers.items c.loop-element.element c.loop-element.count c.if-above-element.count
      c.index-above.result.now c.self.invariant.0 (subst (λ (n : ℕ). c.loop-element.element < n)
      (c.len-element-end.ensures ∙ c.self.inside.parents.ok.0) c.loop-element-test.true) c.index-above.ensures
      w.if-above-element.true c.loop-element.invariant (ap (λ v. v.items) w.numbers-is ∙
      w.in_ok-push.ensures.items) w.count-is
  | else-above-element+in_ok-push-2 w ↦ other_pushed c.self.inside.parents.items c.loop-element.numbers.items
      c.if-above-element.numbers.items c.loop-element.element c.loop-element.count c.if-above-element.count
      c.index-above.result.now w.index.result.now c.self.invariant.0
      (subst (λ (n : ℕ). c.loop-element.element < n) (c.len-element-end.ensures ∙
      c.self.inside.parents.ok.0) c.loop-element-test.true) c.index-above.ensures w.if-above-element.false
      w.index.ensures c.loop-element.invariant (ap (λ v. v.items) w.numbers-is ∙
      w.in_ok-push-2.ensures.items) w.count-is
]

pub returns : goal.returns
returns c =
    let all = subst (λ (n : ℕ). AreNumbered c.self.inside.parents.items c.loop-element.numbers.items n
    c.loop-element.count) (between c.loop-element.element c.len-element-end.result
    (length c.self.inside.parents.items) c.loop-element-test.false c.loop-element.auto.element-end
    (c.len-element-end.ensures ∙ c.self.inside.parents.ok.0)) c.loop-element.invariant in
    numbered_by c.args.self.now c.loop-element.numbers.items c.loop-element.count
    (all_numbered c.self.inside.parents.items c.loop-element.numbers.items c.loop-element.count all
    ∙ ap numbers_of c.self.view_is)
    (all_counted c.self.inside.parents.items c.loop-element.numbers.items c.args.self.now c.loop-element.count all
    c.self.view_is)
