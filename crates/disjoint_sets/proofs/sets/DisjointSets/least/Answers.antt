use Rattle.std.proofs.Common.{◌∙◌, ◌<◌, ℕ, sym, ap, subst, length}
use Rattle.disjoint_sets.proofs.Views.{inside, seen_at, length-roots}
use Rattle.disjoint_sets.proofs.sets.DisjointSets.least.Goals as goal

pub find-requires-clause-element : goal.find-requires-clause-element
find-requires-clause-element c = inside c.self.inside.parents.items c.args.self.now c.as_mut_slice.result.now
    c.args.element c.self.view_is c.as_mut_slice.ensures.value c.requires

pub returns-clause-value : goal.returns-clause-value
returns-clause-value c = c.find.ensures.value ∙ seen_at c.self.inside.parents.items c.args.self.now
    c.as_mut_slice.result.now c.args.element c.self.view_is c.as_mut_slice.ensures.value c.requires

pub returns-clause-bound : goal.returns-clause-bound
returns-clause-bound c = subst (λ (n : ℕ). c.find.result < n) (ap length c.as_mut_slice.ensures.value ∙
    (sym (length-roots c.self.inside.parents.items) ∙ ap length c.self.view_is)) c.find.ensures.bound
