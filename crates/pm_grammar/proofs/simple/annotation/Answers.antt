use Rattle.std.proofs.Common.{◌∙◌, None, Some, ap}
use Rattle.pm_syn.specs.declared.expression.Expr.{Expr}
use Rattle.pm_syn.specs.declared.statement.Stmt as leaf
use Rattle.pm_grammar.specs.Reading.{IsOnly}
use Rattle.pm_grammar.specs.Statements.{IsExpression}
use Rattle.pm_grammar.specs.declared.level.Level.TheVariants as level
use Rattle.pm_grammar.proofs.ReadAnswers.{nothing_given}
use Rattle.pm_grammar.proofs.SimpleStatements.{no_note, no_tokens, note_found, noted_found, some_tokens, value_missing, value_none, value_read, value_some}
use Rattle.pm_grammar.proofs.simple.annotation.Goals as goal

pub returns-in_err-note-clause-only : goal.returns-in_err-note-clause-only
returns-in_err-note-clause-only c =
    nothing_given (IsOnly level.Conditional c.args.tokens.now None) _ c.from_residual.result c.in_err-note.field-0.0
    (λ nothing s behind. no_note c.args.target c.args.tokens.now nothing s behind.0 behind.1 behind.2)
    c.from_residual.ensures c.in_err-note.ensures.only

pub returns-then-is_empty-clause-found : goal.returns-then-is_empty-clause-found
returns-then-is_empty-clause-found c colon mark =
    rw (c.into_inner.ensures, c.into_inner-then-is_empty.ensures) (note_found c.args.target c.in_ok-note.note c.args.tokens.now c.in_ok-note.rest.now c.in_ok-note.ensures.found (no_tokens c.in_ok-note.rest.now c.if-is_empty.ensures) colon mark)

pub returns-then-is_empty-clause-only : goal.returns-then-is_empty-clause-only
returns-then-is_empty-clause-only c s behind =
    let value = value_read c.args.target c.in_ok-note.note c.args.tokens.now c.in_ok-note.rest.now c.in_ok-note.ensures.only s behind.0 behind.1 behind.2 in
    rw (c.into_inner.ensures, c.into_inner-then-is_empty.ensures) (value_none c.args.target c.in_ok-note.note c.in_ok-note.rest.now s value (no_tokens c.in_ok-note.rest.now c.if-is_empty.ensures))

pub returns-in_default-clause-only : goal.returns-in_default-clause-only
returns-in_default-clause-only c s behind =
    let value = value_read c.args.target c.in_ok-note.note c.args.tokens.now c.in_ok-note.rest.now c.in_ok-note.ensures.only s behind.0 behind.1 behind.2 in
    value_missing c.args.target c.in_ok-note.note c.in_ok-note.rest.now s value (some_tokens c.in_ok-note.rest.now c.if-is_empty.ensures) c.in_default.ensures

pub returns-in_err-value-clause-only : goal.returns-in_err-value-clause-only
returns-in_err-value-clause-only c =
    nothing_given ((e : Expr) → IsExpression c.in-Some.tail.now e → ⊥) _ c.from_residual-in_err-value.result c.in_err-value.field-0.0
    (λ nothing s behind.
    let value = value_read c.args.target c.in_ok-note.note c.args.tokens.now c.in_ok-note.rest.now c.in_ok-note.ensures.only s behind.0 behind.1 behind.2 in
    let told = value_some c.args.target c.in_ok-note.note c.in_ok-note.rest.now s value c.in-Some.tail.now c.in-Some.ensures in
    nothing told.0 told.1)
    c.from_residual-in_err-value.ensures c.in_err-value.ensures.only

pub returns-clause-found : goal.returns-clause-found
returns-clause-found c colon mark =
    rw (c.into_inner-2.ensures, c.into_inner-3.ensures, c.into_inner-4.ensures) (noted_found c.args.target c.in_ok-note.note c.in_ok-value.value c.args.tokens.now c.in_ok-note.rest.now c.in-Some.tail.now c.in_ok-note.ensures.found c.in-Some.ensures c.in_ok-value.ensures.found colon mark)

pub returns-clause-only : goal.returns-clause-only
returns-clause-only c s behind =
    let value = value_read c.args.target c.in_ok-note.note c.args.tokens.now c.in_ok-note.rest.now c.in_ok-note.ensures.only s behind.0 behind.1 behind.2 in
    let told = value_some c.args.target c.in_ok-note.note c.in_ok-note.rest.now s value c.in-Some.tail.now c.in-Some.ensures in
    let made = λ (e : Expr). leaf.Note c.args.target c.in_ok-note.note (Some e) in
    rw (c.into_inner-2.ensures, c.into_inner-3.ensures, c.into_inner-4.ensures) (told.2 ∙ ap made (c.in_ok-value.ensures.only told.0 told.1))
