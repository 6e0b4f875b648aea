use Rattle.std.proofs.Common.{◌∙◌, codes}
use Rattle.pm_grammar.specs.Headers.{IsOnlyOptional}
use Rattle.pm_grammar.proofs.ReadAnswers.{failed}
use Rattle.pm_grammar.proofs.Signatures.{IsOnlyParameter, no_default, no_note, only_parameter, parameter_found}
use Rattle.pm_grammar.proofs.header.parameter.Goals as goal

pub returns-in_err-note-clause-only : goal.returns-in_err-note-clause-only
returns-in_err-note-clause-only c =
    failed (IsOnlyOptional (codes ":") c.in-Some.rest.now) (IsOnlyParameter c.args.tokens.now) c.from_residual-in_err-note.result c.in_err-note.field-0.0
    (λ nothing. no_note c.args.tokens.now c.in-Some.rest.now c.in-Some.name.now c.in-Some.ensures.0 nothing)
    c.from_residual-in_err-note.ensures c.in_err-note.ensures.only

pub returns-in_err-default-clause-only : goal.returns-in_err-default-clause-only
returns-in_err-default-clause-only c =
    failed (IsOnlyOptional (codes "=") c.in_ok-note.rest.now) (IsOnlyParameter c.args.tokens.now) c.from_residual-in_err-default.result c.in_err-default.field-0.0
    (λ nothing. no_default c.args.tokens.now c.in-Some.rest.now c.in_ok-note.rest.now c.in-Some.name.now c.in_ok-note.note c.in-Some.ensures.0 c.in_ok-note.ensures.only nothing)
    c.from_residual-in_err-default.ensures c.in_err-default.ensures.only

pub returns-clause-found : goal.returns-clause-found
returns-clause-found c =
    rw (c.unboxed-note.ensures, c.unboxed-default.ensures) (parameter_found c.args.tokens.now c.in-Some.rest.now _ _ c.in-Some.name.now _ _ _ c.in-Some.ensures c.in_ok-note.ensures.found c.in_ok-default.ensures.found (c.in_ok-name.ensures ∙ c.as_slice.ensures))

pub returns-clause-only : goal.returns-clause-only
returns-clause-only c =
    rw (c.unboxed-note.ensures, c.unboxed-default.ensures) (only_parameter c.args.tokens.now c.in-Some.rest.now _ _ c.in-Some.name.now _ _ _ c.in-Some.ensures.0 c.in_ok-note.ensures.only c.in_ok-default.ensures.only (c.in_ok-name.ensures ∙ c.as_slice.ensures))
