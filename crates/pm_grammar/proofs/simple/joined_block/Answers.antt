use Rattle.std.proofs.Common.{◌∙◌, ap}
use Rattle.pm_syn.specs.declared.expression.Expr.{Expr}
use Rattle.pm_syn.specs.declared.statement.Stmt as leaf
use Rattle.pm_grammar.specs.Statements.{IsExpression}
use Rattle.pm_grammar.proofs.ReadAnswers.{nothing_given}
use Rattle.pm_grammar.proofs.SimpleStatements.{joined_found, joined_only, joined_value, no_colon}
use Rattle.pm_grammar.proofs.simple.joined_block.Goals as goal

pub returns-in_default-clause-only : goal.returns-in_default-clause-only
returns-in_default-clause-only c s behind =
    no_colon c.args.target c.args.tokens.now s c.in_default.ensures (joined_only c.args.target c.args.tokens.now s behind.0 behind.1 behind.2 behind.3 behind.4)

pub returns-in_err-value-clause-only : goal.returns-in_err-value-clause-only
returns-in_err-value-clause-only c =
    nothing_given ((e : Expr) → IsExpression c.in-Some.tail.now e → ⊥) _ c.from_residual.result c.in_err-value.field-0.0
    (λ nothing s behind.
    let value = joined_value c.args.target c.args.tokens.now c.in-Some.tail.now s c.in-Some.ensures (joined_only c.args.target c.args.tokens.now s behind.0 behind.1 behind.2 behind.3 behind.4) in
    nothing value.0 value.1)
    c.from_residual.ensures c.in_err-value.ensures.only

pub returns-clause-found : goal.returns-clause-found
returns-clause-found c sign word mark lambda =
    rw (c.into_inner.ensures, c.into_inner-2.ensures) (joined_found c.args.target c.args.tokens.now c.in-Some.tail.now c.in_ok-value.value c.in-Some.ensures c.in_ok-value.ensures.found sign word mark lambda)

pub returns-clause-only : goal.returns-clause-only
returns-clause-only c s behind =
    let value = joined_value c.args.target c.args.tokens.now c.in-Some.tail.now s c.in-Some.ensures (joined_only c.args.target c.args.tokens.now s behind.0 behind.1 behind.2 behind.3 behind.4) in
    rw (c.into_inner.ensures, c.into_inner-2.ensures) (value.2 ∙ ap (λ (e : Expr). leaf.JoinLambda c.args.target e) (c.in_ok-value.ensures.only value.0 value.1))
