use Rattle.std.proofs.Common.{Option}
use Rattle.pm_syn.specs.declared.expression.Expr.{Expr}
use Rattle.pm_syn.specs.declared.statement.Stmt.{Stmt}
use Rattle.pm_grammar.specs.Headers.{IsCondition, SpellsBranch, simple_branch}
use Rattle.pm_grammar.specs.Statements.{SpellsEnd, SpellsSimple}
use Rattle.pm_grammar.proofs.Headers.{branch_simple, elif_found, elif_only, elif_read, else_found, else_only, else_read, if_found, if_only, if_read}
use Rattle.pm_grammar.proofs.ReadAnswers.{given_as, nothing_given, only_given}
use Rattle.pm_grammar.proofs.header.branch.Goals as goal

pub returns-in_err-condition-clause-only : goal.returns-in_err-condition-clause-only
returns-in_err-condition-clause-only c =
    nothing_given ((p : Expr × Option Stmt) → IsCondition c.in-Some.tail.now p.0 p.1 → ⊥) _ c.from_residual.result c.in_err-condition.field-0.0
    (λ nothing s is. let parts = if_only c.args.tokens.now c.in-Some.tail.now c.in-Some.ensures s is in nothing (parts.0, parts.1) parts.3)
    c.from_residual.ensures c.in_err-condition.ensures.only

pub returns-in-Some-clause-found : goal.returns-in-Some-clause-found
returns-in-Some-clause-found c = rw c.into_inner.ensures (if_found c.args.tokens.now c.in-Some.tail.now _ _ c.in-Some.ensures c.in_ok-condition.ensures.found)

pub returns-in-Some-clause-only : goal.returns-in-Some-clause-only
returns-in-Some-clause-only c s is =
    rw c.into_inner.ensures (if_read c.args.tokens.now c.in-Some.tail.now _ _ c.in-Some.ensures c.in_ok-condition.ensures.only s is)

pub returns-in_err-condition-2-clause-only : goal.returns-in_err-condition-2-clause-only
returns-in_err-condition-2-clause-only c =
    nothing_given ((p : Expr × Option Stmt) → IsCondition c.in-Some-after_word.tail.now p.0 p.1 → ⊥) _ c.from_residual-in_err-condition-2.result c.in_err-condition-2.field-0.0
    (λ nothing s is. let parts = elif_only c.args.tokens.now c.in-Some-after_word.tail.now c.in-Some-after_word.ensures s is in nothing (parts.0, parts.1) parts.3)
    c.from_residual-in_err-condition-2.ensures c.in_err-condition-2.ensures.only

pub returns-in-Some-after_word-clause-found : goal.returns-in-Some-after_word-clause-found
returns-in-Some-after_word-clause-found c = rw c.into_inner-in-Some-after_word.ensures (elif_found c.args.tokens.now c.in-Some-after_word.tail.now _ _ c.in-Some-after_word.ensures c.in_ok-condition-2.ensures.found)

pub returns-in-Some-after_word-clause-only : goal.returns-in-Some-after_word-clause-only
returns-in-Some-after_word-clause-only c s is =
    rw c.into_inner-in-Some-after_word.ensures (elif_read c.args.tokens.now c.in-Some-after_word.tail.now _ _ c.in-Some-after_word.ensures c.in_ok-condition-2.ensures.only s is)

pub returns-in_err-body-clause-only : goal.returns-in_err-body-clause-only
returns-in_err-body-clause-only c =
    nothing_given ((body : Option Stmt) → SpellsEnd c.in-Some-after_word-2.tail.now body → ⊥) _ c.from_residual-in_err-body.result c.in_err-body.field-0.0
    (λ nothing s is. let parts = else_only c.args.tokens.now c.in-Some-after_word-2.tail.now c.in-Some-after_word-2.ensures s is in nothing parts.0 parts.2)
    c.from_residual-in_err-body.ensures c.in_err-body.ensures.only

pub returns-in-Some-after_word-2-clause-found : goal.returns-in-Some-after_word-2-clause-found
returns-in-Some-after_word-2-clause-found c = else_found c.args.tokens.now c.in-Some-after_word-2.tail.now _ c.in-Some-after_word-2.ensures c.in_ok-body.ensures.found

pub returns-in-Some-after_word-2-clause-only : goal.returns-in-Some-after_word-2-clause-only
returns-in-Some-after_word-2-clause-only c s is =
    else_read c.args.tokens.now c.in-Some-after_word-2.tail.now _ c.in-Some-after_word-2.ensures c.in_ok-body.ensures.only s is

pub returns-clause-found : goal.returns-clause-found
returns-clause-found c = given_as (SpellsSimple c.args.tokens.now) (SpellsBranch c.args.tokens.now) (λ s is. simple_branch c.args.tokens.now s is) c.simple.result c.simple.ensures.found

pub returns-clause-only : goal.returns-clause-only
returns-clause-only c =
    only_given (SpellsSimple c.args.tokens.now) (SpellsBranch c.args.tokens.now)
    (λ s is. branch_simple c.args.tokens.now s c.in_default.ensures c.in_default-after_word.ensures c.in_default-after_word-2.ensures is)
    c.simple.result c.simple.ensures.only
