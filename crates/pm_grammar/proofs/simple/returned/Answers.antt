use Rattle.std.proofs.Common.{◌∙◌, ap}
use Rattle.pm_syn.specs.declared.expression.Expr.{Expr}
use Rattle.pm_syn.specs.declared.statement.Stmt as leaf
use Rattle.pm_grammar.specs.Statements.{IsExpression, SpellsSimple}
use Rattle.pm_grammar.proofs.ReadAnswers.{nothing_given}
use Rattle.pm_grammar.proofs.SimpleStatements.{simple-return}
use Rattle.pm_grammar.proofs.simple.returned.Goals as goal

pub returns-in_err-value-clause-only : goal.returns-in_err-value-clause-only
returns-in_err-value-clause-only c =
    nothing_given ((e : Expr) → IsExpression c.args.tokens.now e → ⊥) _ c.from_residual.result c.in_err-value.field-0.0
    (λ nothing s spelled. let value = simple-return spelled.0 c.args.tokens.now s spelled.1 spelled.2 in nothing value.0 value.1)
    c.from_residual.ensures c.in_err-value.ensures.only

pub returns-clause-found : goal.returns-clause-found
returns-clause-found c word is = rw c.into_inner.ensures (SpellsSimple.returned word c.args.tokens.now c.in_ok-value.value is c.in_ok-value.ensures.found)

pub returns-clause-only : goal.returns-clause-only
returns-clause-only c s spelled =
    let value = simple-return spelled.0 c.args.tokens.now s spelled.1 spelled.2 in
    rw c.into_inner.ensures (value.2 ∙ ap leaf.Return (c.in_ok-value.ensures.only value.0 value.1))
