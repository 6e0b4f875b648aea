use Rattle.std.proofs.Common.{None, Some}
use Rattle.pm_syn.specs.declared.statement.Stmt.{Stmt}
use Rattle.std.specs.Prelude.{Option}
use Rattle.pm_grammar.specs.Reading.{IsOnly}
use Rattle.pm_grammar.specs.Statements.{IsExpression, SpellsEnd}
use Rattle.pm_grammar.specs.declared.level.Level.TheVariants as level
use Rattle.pm_grammar.proofs.Headers.{expression_before, none_before_end, only_before_end, pair_is}
use Rattle.pm_grammar.proofs.ReadAnswers.{nothing_given}
use Rattle.pm_grammar.proofs.header.condition.Goals as goal

pub returns-in_err-condition-clause-only : goal.returns-in_err-condition-clause-only
returns-in_err-condition-clause-only c =
    nothing_given (IsOnly level.Conditional c.args.tokens.now None) _ c.from_residual.result c.in_err-condition.field-0.0
    (λ nothing p is. none_before_end IsExpression c.args.tokens.now (expression_before c.args.tokens.now None nothing) p.0 is.0 p.1 is.1 is.2)
    c.from_residual.ensures c.in_err-condition.ensures.only

pub returns-in_err-body-clause-only : goal.returns-in_err-body-clause-only
returns-in_err-body-clause-only c =
    nothing_given ((body : Option Stmt) → SpellsEnd c.in_ok-condition.rest.now body → ⊥) _ c.from_residual-in_err-body.result c.in_err-body.field-0.0
    (λ nothing p is.
    let same = only_before_end IsExpression c.args.tokens.now c.in_ok-condition.rest.now c.in_ok-condition.condition (expression_before c.args.tokens.now (Some (c.in_ok-condition.condition, c.in_ok-condition.rest.now)) c.in_ok-condition.ensures.only) p.0 is.0 p.1 is.1 is.2 in
    nothing p.1 same.1)
    c.from_residual-in_err-body.ensures c.in_err-body.ensures.only

pub returns-clause-only : goal.returns-clause-only
returns-clause-only c p is =
    let same = only_before_end IsExpression c.args.tokens.now c.in_ok-condition.rest.now c.in_ok-condition.condition (expression_before c.args.tokens.now (Some (c.in_ok-condition.condition, c.in_ok-condition.rest.now)) c.in_ok-condition.ensures.only) p.0 is.0 p.1 is.1 is.2 in
    pair_is p c.in_ok-condition.condition c.in_ok-body.body same.0 (c.in_ok-body.ensures.only p.1 same.1)
