use Rattle.std.proofs.Common.{◌≡◌}
use Rattle.pm_syn.specs.declared.statement.Stmt.{Stmt}
use Rattle.pm_grammar.specs.Statements.{SpellsSimple}
use Rattle.pm_grammar.proofs.Headers.{empty_false, empty_true, end_alone, end_with, only_alone, only_with}
use Rattle.pm_grammar.proofs.ReadAnswers.{nothing_given}
use Rattle.pm_grammar.proofs.header.header_end.Goals as goal

pub returns-then-is_empty-clause-found : goal.returns-then-is_empty-clause-found
returns-then-is_empty-clause-found c =
    end_alone c.args.tokens.now c.in-Some.tail.now c.in-Some.ensures (empty_true _ _ c.is_empty.ensures c.if-is_empty.true)

pub returns-then-is_empty-clause-only : goal.returns-then-is_empty-clause-only
returns-then-is_empty-clause-only c body ends =
    only_alone c.args.tokens.now c.in-Some.tail.now c.in-Some.ensures (empty_true _ _ c.is_empty.ensures c.if-is_empty.true) body ends

pub returns-in_err-statement-clause-only : goal.returns-in_err-statement-clause-only
returns-in_err-statement-clause-only c =
    nothing_given ((s : Stmt) → SpellsSimple c.in-Some.tail.now s → ⊥) _ c.from_residual.result c.in_err-statement.field-0.0
    (λ nothing body ends.
    let with = only_with c.args.tokens.now c.in-Some.tail.now c.in-Some.ensures (empty_false _ _ c.is_empty.ensures c.if-is_empty.false) body ends in
    nothing with.0 with.2)
    c.from_residual.ensures c.in_err-statement.ensures.only

pub returns-clause-found : goal.returns-clause-found
returns-clause-found c =
    end_with c.args.tokens.now c.in-Some.tail.now _ c.in-Some.ensures (rw c.in_ok-new.ensures c.in_ok-statement.ensures.found)

pub returns-clause-only : goal.returns-clause-only
returns-clause-only c body ends =
    let with = only_with c.args.tokens.now c.in-Some.tail.now c.in-Some.ensures (empty_false _ _ c.is_empty.ensures c.if-is_empty.false) body ends in
    let only = c.in_ok-statement.ensures.only with.0 with.2 in
    let made : c.in_ok-new.field-0 ≡ c.in_ok-statement.statement = c.in_ok-new.ensures in
    cc (only, made, with.1)
