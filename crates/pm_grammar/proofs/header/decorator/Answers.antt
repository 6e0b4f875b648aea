use Rattle.std.proofs.Common.{◌∙◌, sym}
use Rattle.pm_syn.specs.declared.expression.Expr.{Expr}
use Rattle.pm_grammar.specs.Headers.{IsGuard}
use Rattle.pm_grammar.proofs.Headers.{empty_false, empty_true, guard_found, guard_only, guard_read_once, mark_found, no_decorator}
use Rattle.pm_grammar.proofs.ReadAnswers.{nothing_given}
use Rattle.pm_grammar.proofs.header.decorator.Goals as goal

pub returns-in_default-clause-only : goal.returns-in_default-clause-only
returns-in_default-clause-only c s is = no_decorator c.args.tokens.now s c.in_default.ensures is

pub returns-then-is_empty-clause-found : goal.returns-then-is_empty-clause-found
returns-then-is_empty-clause-found c =
    mark_found c.args.tokens.now c.in-Some.rest.now c.in-Some.name.now _ c.in-Some.ensures (empty_true _ _ c.is_empty.ensures c.if-is_empty.true) (c.in_ok-from_slice.ensures ∙ c.as_slice.ensures)

pub returns-in_err-condition-clause-only : goal.returns-in_err-condition-clause-only
returns-in_err-condition-clause-only c =
    nothing_given ((e : Expr) → IsGuard c.in-Some-after_guard_opening.tail.now e → ⊥) _ c.from_residual-in_err-condition.result c.in_err-condition.field-0.0
    (λ nothing s is.
    let parts = guard_only c.args.tokens.now c.in-Some.rest.now c.in-Some-after_guard_opening.tail.now c.in-Some.name.now c.in-Some.ensures.0 (empty_false _ _ c.is_empty.ensures c.if-is_empty.false) c.in-Some-after_guard_opening.ensures s is in
    nothing parts.0 parts.2)
    c.from_residual-in_err-condition.ensures c.in_err-condition.ensures.only

pub returns-clause-found : goal.returns-clause-found
returns-clause-found c =
    rw c.into_inner.ensures (guard_found c.args.tokens.now c.in-Some.rest.now c.in-Some-after_guard_opening.tail.now c.in-Some.name.now _ c.in-Some.ensures.0 (sym c.is_word.ensures ∙ c.if-not-is_word.false) c.in-Some-after_guard_opening.ensures c.in_ok-condition.ensures.found)

pub returns-clause-only : goal.returns-clause-only
returns-clause-only c s is =
    rw c.into_inner.ensures (guard_read_once c.args.tokens.now c.in-Some.rest.now c.in-Some-after_guard_opening.tail.now c.in-Some.name.now _ c.in-Some.ensures.0 (empty_false _ _ c.is_empty.ensures c.if-is_empty.false) c.in-Some-after_guard_opening.ensures c.in_ok-condition.ensures.only s is)
