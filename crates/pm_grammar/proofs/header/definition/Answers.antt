use Rattle.std.proofs.Common.{◌∙◌, Option, None, codes}
use Rattle.pm_syn.specs.declared.expression.Expr.{Expr}
use Rattle.pm_syn.specs.declared.statement.Stmt.{Stmt}
use Rattle.pm_grammar.specs.Headers.{IsSignature, SpellsFunctionEnd}
use Rattle.pm_grammar.specs.Reading.{IsOnlyBefore}
use Rattle.pm_grammar.proofs.ReadAnswers.{nothing_given}
use Rattle.pm_grammar.proofs.Signatures.{definition_found, definition_only, definition_parts, no_signature}
use Rattle.pm_grammar.proofs.header.definition.Goals as goal

pub returns-in_err-signature-clause-only : goal.returns-in_err-signature-clause-only
returns-in_err-signature-clause-only c =
    nothing_given (IsOnlyBefore IsSignature (codes ")") c.in-Some-after_symbol.rest.now None) _ c.from_residual-in_err-signature.result c.in_err-signature.field-0.0
    (λ nothing s is. no_signature c.args.tokens.now c.in-Some.rest.now c.in-Some-after_symbol.rest.now c.in-Some.name.now c.in-Some.ensures.0 c.in-Some-after_symbol.ensures nothing s is)
    c.from_residual-in_err-signature.ensures c.in_err-signature.ensures.only

pub returns-in_err-note-clause-only : goal.returns-in_err-note-clause-only
returns-in_err-note-clause-only c =
    nothing_given ((end : Option Expr × Option Stmt) → SpellsFunctionEnd c.in_ok-signature.rest.now end.0 end.1 → ⊥) _ c.from_residual-in_err-note.result c.in_err-note.field-0.0
    (λ nothing s is.
    let parts = definition_parts c.args.tokens.now c.in-Some.rest.now c.in-Some-after_symbol.rest.now _ c.in-Some.name.now _ c.in-Some.ensures.0 c.in-Some-after_symbol.ensures c.in_ok-signature.ensures.only s is in
    nothing (parts.0, parts.1) parts.3)
    c.from_residual-in_err-note.ensures c.in_err-note.ensures.only

pub returns-clause-found : goal.returns-clause-found
returns-clause-found c =
    rw c.unboxed.ensures (definition_found c.args.tokens.now c.in-Some.rest.now c.in-Some-after_symbol.rest.now _ c.in-Some.name.now _ _ _ _ _ c.in-Some.ensures c.in-Some-after_symbol.ensures c.in_ok-signature.ensures.found c.in_ok-note.ensures.found (c.in_ok-name.ensures ∙ c.as_slice.ensures))

pub returns-clause-only : goal.returns-clause-only
returns-clause-only c =
    rw c.unboxed.ensures (definition_only c.args.tokens.now c.in-Some.rest.now c.in-Some-after_symbol.rest.now _ c.in-Some.name.now _ _ _ _ c.in-Some.ensures.0 c.in-Some-after_symbol.ensures c.in_ok-signature.ensures.only c.in_ok-note.ensures.only (c.in_ok-name.ensures ∙ c.as_slice.ensures))
