use Rattle.std.proofs.Common.{Option, None, codes}
use Rattle.pm_syn.specs.declared.statement.Stmt.{Stmt}
use Rattle.pm_grammar.specs.Reading.{IsOnlyBefore}
use Rattle.pm_grammar.specs.Statements.{SpellsEnd, SpellsResult}
use Rattle.pm_grammar.proofs.Headers.{pair_is}
use Rattle.pm_grammar.proofs.ReadAnswers.{nothing_given}
use Rattle.pm_grammar.proofs.Signatures.{function_end_found, function_end_parts, no_result}
use Rattle.pm_grammar.proofs.header.function_end.Goals as goal

pub returns-in_err-note-clause-only : goal.returns-in_err-note-clause-only
returns-in_err-note-clause-only c =
    nothing_given (IsOnlyBefore SpellsResult (codes ":") c.in-Some.rest.now None) _ c.from_residual.result c.in_err-note.field-0.0
    (λ nothing end is. no_result c.args.tokens.now c.in-Some.rest.now c.in-Some.ensures nothing end.0 end.1 is)
    c.from_residual.ensures c.in_err-note.ensures.only

pub returns-in_err-body-clause-only : goal.returns-in_err-body-clause-only
returns-in_err-body-clause-only c =
    nothing_given ((body : Option Stmt) → SpellsEnd c.in_ok-note.rest.now body → ⊥) _ c.from_residual-in_err-body.result c.in_err-body.field-0.0
    (λ nothing end is.
    let parts = function_end_parts c.args.tokens.now c.in-Some.rest.now _ _ c.in-Some.ensures c.in_ok-note.ensures.only end.0 end.1 is in
    nothing end.1 parts.1)
    c.from_residual-in_err-body.ensures c.in_err-body.ensures.only

pub returns-clause-found : goal.returns-clause-found
returns-clause-found c = function_end_found c.args.tokens.now c.in-Some.rest.now _ _ _ c.in-Some.ensures c.in_ok-note.ensures.found c.in_ok-body.ensures.found

pub returns-clause-only : goal.returns-clause-only
returns-clause-only c end is =
    let parts = function_end_parts c.args.tokens.now c.in-Some.rest.now _ _ c.in-Some.ensures c.in_ok-note.ensures.only end.0 end.1 is in
    pair_is end _ _ parts.0 (c.in_ok-body.ensures.only end.1 parts.1)
