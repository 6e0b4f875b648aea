use Rattle.std.proofs.Common.{◌≡◌, ◌∷◌, ◌∙◌, IsTrue, None, Some, ap, codes, refl, sym}
use Rattle.pm_syn.specs.declared.statement.Stmt.{Stmt}
use Rattle.pm_syn.specs.declared.statement.Stmt as leaf
use Rattle.pm_syn.specs.declared.token.Token.{Token}
use Rattle.pm_grammar.specs.ExpressionStatements.{SpellsAfter, SpellsWithExpression}
use Rattle.pm_grammar.specs.Reading.{IsOnly}
use Rattle.pm_grammar.specs.Tokens.{is_symbol}
use Rattle.pm_grammar.specs.Statements.{assignment_of}
use Rattle.pm_grammar.specs.declared.level.Level.TheVariants as level
use Rattle.pm_grammar.proofs.ReadAnswers.{nothing_given, only_given}
use Rattle.pm_grammar.proofs.SimpleStatements.{behind_done, behind_first, behind_other, behind_read, no_behind, no_tokens-length, with_done}
use Rattle.pm_grammar.proofs.simple.expression_statement.Goals as goal

pub returns-in_err-target-clause-only : goal.returns-in_err-target-clause-only
returns-in_err-target-clause-only c =
    nothing_given (IsOnly level.Conditional c.args.tokens.now None) _ c.from_residual.result c.in_err-target.field-0.0
    (λ nothing s with_it. no_behind c.args.tokens.now nothing s with_it)
    c.from_residual.ensures c.in_err-target.ensures.only

pub returns-in_default-clause-found : goal.returns-in_default-clause-found
returns-in_default-clause-found c =
    with_done c.args.tokens.now c.in_ok-target.rest.now c.in_ok-target.target c.into_inner.result c.in_ok-target.ensures.found c.into_inner.ensures (no_tokens-length c.in_ok-target.rest.now c.in_default.ensures.cases)

pub returns-in_default-clause-only : goal.returns-in_default-clause-only
returns-in_default-clause-only c s with_it =
    let behind = behind_read c.args.tokens.now c.in_ok-target.rest.now c.in_ok-target.target c.in_ok-target.ensures.only s with_it in
    let is = behind_done c.in_ok-target.target c.in_ok-target.rest.now s behind (no_tokens-length c.in_ok-target.rest.now c.in_default.ensures.cases) in
    is ∙ ap leaf.Do (sym c.into_inner.ensures)

pub returns-then-is_symbol-clause-only : goal.returns-then-is_symbol-clause-only
returns-then-is_symbol-clause-only c =
    let all = c.args.tokens.now in
    let target = c.in_ok-target.target in
    let tail = c.in-Some.tail.now in
    let sign = c.in-Some.sign.now in
    only_given (λ (s : Stmt). (first : Token) × IsTrue (is_symbol (codes ":") first) × SpellsAfter target (first ∷ tail) s) (SpellsWithExpression all)
    (λ s with_it. (sign, sym c.if-is_symbol.ensures, behind_first all c.in_ok-target.rest.now tail target target sign c.in_ok-target.ensures.only refl c.in-Some.ensures.cases.0 s with_it))
    c.annotation.result c.annotation.ensures.only

pub returns-in-Some-assignment_of-clause-only : goal.returns-in-Some-assignment_of-clause-only
returns-in-Some-assignment_of-clause-only c =
    let all = c.args.tokens.now in
    let target = c.in_ok-target.target in
    let tail = c.in-Some.tail.now in
    let sign = c.in-Some.sign.now in
    only_given (λ (s : Stmt). (first : Token) × (assignment_of first ≡ Some c.in-Some-assignment_of.op) × SpellsAfter target (first ∷ tail) s) (SpellsWithExpression all)
    (λ s with_it. (sign, sym c.in-Some-assignment_of.ensures, behind_first all c.in_ok-target.rest.now tail target target sign c.in_ok-target.ensures.only refl c.in-Some.ensures.cases.0 s with_it))
    c.assignment.result c.assignment.ensures.only

pub returns-in-None-clause-only : goal.returns-in-None-clause-only
returns-in-None-clause-only c s with_it =
    let behind = behind_read c.args.tokens.now c.in_ok-target.rest.now c.in_ok-target.target c.in_ok-target.ensures.only s with_it in
    behind_other c.in_ok-target.target c.in_ok-target.rest.now s behind c.in-Some.sign.now c.in-Some.tail.now c.in-Some.ensures.cases.0 (sym c.if-is_symbol.ensures) (sym c.in-None.ensures)
