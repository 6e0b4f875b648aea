use Rattle.std.proofs.Common.{◌∙◌, ◌<◌, ℕ, sym, ap, subst}
use Rattle.disjoint_sets.specs.Forests.{IsForest, roots}
use Rattle.std.proofs.lemmas.List.{with_items_is}
use Rattle.disjoint_sets.proofs.Joining.{joined_by}
use Rattle.disjoint_sets.proofs.Roots.{root_twice}
use Rattle.disjoint_sets.proofs.Views.{inside, united_roots}
use Rattle.disjoint_sets.proofs.sets.DisjointSets.join.Goals as goal

pub find-first-requires-clause-element : goal.find-first-requires-clause-element
find-first-requires-clause-element c = inside c.self.inside.parents.items c.args.self.now
    c.as_mut_slice-parents.result.now c.args.a c.self.view_is c.as_mut_slice-parents.ensures.value c.requires.0

pub find-second-requires-clause-element : goal.find-second-requires-clause-element
find-second-requires-clause-element c = subst (λ (n : ℕ). c.args.b < n) (sym c.find-first.ensures.size)
    (inside c.self.inside.parents.items c.args.self.now c.as_mut_slice-parents.result.now c.args.b c.self.view_is
    c.as_mut_slice-parents.ensures.value c.requires.1)

pub join_roots-requires-clause-rooted : goal.join_roots-requires-clause-rooted
join_roots-requires-clause-rooted c = (
  c.find-second.ensures.same c.find-first.result ∙ (c.find-first.ensures.same c.find-first.result ∙
      root_twice c.as_mut_slice-parents.result.now c.find-first.result c.args.a
      (subst IsForest (sym c.as_mut_slice-parents.ensures.value) c.self.invariant.0) c.find-first.ensures.value),
  c.find-second.ensures.same c.find-second.result ∙ root_twice c.find-first.new.parents c.find-second.result
      c.args.b c.find-first.ensures.forest c.find-second.ensures.value,
)

pub returns : goal.returns
returns c = joined_by c.args.self.now _ c.args.a c.args.b c.requires.0 c.requires.1 (
    ap roots (with_items_is c.self.inside.parents c.join_roots.new.parents (c.join_roots.ensures.size ∙
    (c.find-second.ensures.size ∙ (c.find-first.ensures.size ∙ c.as_mut_slice-parents.ensures.len)))) ∙
    united_roots c.self.inside.parents.items c.args.self.now c.as_mut_slice-parents.result.now
    c.find-first.new.parents c.find-second.new.parents c.join_roots.new.parents c.args.a c.args.b
    c.find-first.result c.find-second.result c.self.view_is c.as_mut_slice-parents.ensures.value c.requires.0
    c.requires.1
    c.find-first.ensures.size c.find-second.ensures.size c.join_roots.ensures.size c.find-first.ensures.same
    c.find-second.ensures.same c.find-first.ensures.value c.find-second.ensures.value c.join_roots.ensures.united)
