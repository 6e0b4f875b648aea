use Rattle.std.proofs.Common.{Option, None}
use Rattle.pm_syn.specs.declared.statement.Stmt.{Stmt}
use Rattle.pm_grammar.specs.Expressions.{SpellsRange}
use Rattle.pm_grammar.specs.Headers.{for_range}
use Rattle.pm_grammar.specs.Reading.{IsOnlyBeginning}
use Rattle.pm_grammar.specs.Statements.{SpellsEnd}
use Rattle.pm_grammar.proofs.Headers.{for_only, for_parts, no_for}
use Rattle.pm_grammar.proofs.ReadAnswers.{nothing_given}
use Rattle.pm_grammar.proofs.header.for_header.Goals as goal

pub returns-in_err-range-clause-only : goal.returns-in_err-range-clause-only
returns-in_err-range-clause-only c =
    nothing_given (IsOnlyBeginning SpellsRange c.args.tokens.now None) _ c.from_residual.result c.in_err-range.field-0.0
    (λ nothing s is. no_for c.args.tokens.now nothing s is)
    c.from_residual.ensures c.in_err-range.ensures.only

pub returns-in_err-body-clause-only : goal.returns-in_err-body-clause-only
returns-in_err-body-clause-only c =
    nothing_given ((body : Option Stmt) → SpellsEnd c.in_ok-range.rest.now body → ⊥) _ c.from_residual-in_err-body.result c.in_err-body.field-0.0
    (λ nothing s is.
    let parts = for_parts c.args.tokens.now _ _ c.in_ok-range.ensures.only s is in
    nothing parts.0 parts.2)
    c.from_residual-in_err-body.ensures c.in_err-body.ensures.only

pub returns-clause-found : goal.returns-clause-found
returns-clause-found c = for_range c.args.tokens.now _ _ _ _ c.in_ok-range.ensures.found c.in_ok-body.ensures.found

pub returns-clause-only : goal.returns-clause-only
returns-clause-only c s is = for_only c.args.tokens.now _ _ _ c.in_ok-range.ensures.only c.in_ok-body.ensures.only s is
