use Rattle.std.proofs.Common.{◌≡◌, ◌∷◌, ◌∙◌, IsTrue, Some, ap, codes}
use Rattle.pm_syn.specs.declared.expression.Expr.{Expr}
use Rattle.pm_syn.specs.declared.statement.Stmt.{Stmt}
use Rattle.pm_syn.specs.declared.statement.Stmt as leaf
use Rattle.pm_syn.specs.declared.token.Token.{Token}
use Rattle.pm_grammar.specs.ExpressionStatements.{SpellsAfter}
use Rattle.pm_grammar.specs.Statements.{IsExpression, assignment_of}
use Rattle.pm_grammar.specs.Tokens.{is_symbol, is_word}
use Rattle.pm_grammar.proofs.ReadAnswers.{nothing_given, only_given}
use Rattle.pm_grammar.proofs.SimpleStatements.{assigned_only, lambda_joined}
use Rattle.pm_grammar.proofs.simple.assignment.Goals as goal

pub returns-in_err-value-clause-only : goal.returns-in_err-value-clause-only
returns-in_err-value-clause-only c =
    nothing_given ((e : Expr) → IsExpression c.args.tokens.now e → ⊥) _ c.from_residual.result c.in_err-value.field-0.0
    (λ nothing s behind. let value = assigned_only c.args.target c.args.tokens.now c.args.op c.in_default.ensures s behind.0 behind.1 behind.2 in nothing value.0 value.1)
    c.from_residual.ensures c.in_err-value.ensures.only

pub returns-in-Some-clause-only : goal.returns-in-Some-clause-only
returns-in-Some-clause-only c =
    only_given (λ (s : Stmt). (sign : Token) × (word : Token) × IsTrue (is_symbol (codes "//=") sign) × IsTrue (is_word (codes "lambda") word) × SpellsAfter c.args.target (sign ∷ word ∷ c.in-Some.tail.now) s)
    (λ (s : Stmt). (sign : Token) × (assignment_of sign ≡ Some c.args.op) × SpellsAfter c.args.target (sign ∷ c.args.tokens.now) s)
    (λ s behind. lambda_joined c.args.target c.args.tokens.now c.in-Some.tail.now c.args.op c.in-Some.ensures.0 c.in-Some.ensures.1 s behind.0 behind.1 behind.2)
    c.joined_block.result c.joined_block.ensures.only

pub returns-clause-found : goal.returns-clause-found
returns-clause-found c sign assigns =
    rw (c.into_inner.ensures, c.into_inner-2.ensures) (SpellsAfter.assigned sign c.args.tokens.now c.args.op c.in_ok-value.value assigns c.in_ok-value.ensures.found)

pub returns-clause-only : goal.returns-clause-only
returns-clause-only c s behind =
    let value = assigned_only c.args.target c.args.tokens.now c.args.op c.in_default.ensures s behind.0 behind.1 behind.2 in
    rw (c.into_inner.ensures, c.into_inner-2.ensures) (value.2 ∙ ap (λ (e : Expr). leaf.Assign c.args.op c.args.target e) (c.in_ok-value.ensures.only value.0 value.1))
