use Rattle.std.proofs.Common.{◌∙◌, ◌+◌, ap, get_or, set, subst, sym, ℕ}
use Rattle.pm_instances.specs.Laid.{laid_out}
use Rattle.pm_callees.specs.declared.tally.Methods.{Methods}
use Rattle.pm_callees.specs.Tally.{AreCounted}
use Rattle.pm_callees.proofs.Counting.{method_counted}
use Rattle.pm_callees.proofs.tally.count_method.Goals as goal

pub returns-clause-counted : goal.returns-clause-counted
returns-clause-counted c =
    subst (λ (v : Methods). AreCounted (laid_out c.args.design.now) c.args.sets.now c.args.i (c.args.method + 1)
    (set c.args.tally.now c.least-root.result v)) (sym c.one_more.ensures)
    (method_counted (laid_out c.args.design.now) c.args.sets.now c.args.i c.args.method c.least-root.result
    c.args.tally.now c.requires.there
    (c.least-root.ensures.value ∙ ap (λ (n : ℕ). get_or c.args.sets.now n 0) c.method_number.ensures.value)
    c.least-root.ensures.bound c.requires.before)
