use Rattle.std.proofs.Common.{◌∷◌, ◌∙◌, None, ap, refl, subst, sym}
use Rattle.std.proofs.lemmas.Bool.{true≢false}
use Rattle.pm_syn.specs.declared.statement.Stmt as leaf
use Rattle.pm_grammar.specs.Reading.{IsOnly}
use Rattle.pm_grammar.specs.Statements.{SpellsSimple}
use Rattle.pm_grammar.specs.declared.level.Level.TheVariants as level
use Rattle.pm_grammar.proofs.ReadAnswers.{nothing_given}
use Rattle.pm_grammar.proofs.SimpleStatements.{assertion_found, assertion_read, no_assertion}
use Rattle.pm_grammar.proofs.simple.assertion.Goals as goal

pub returns-in_err-tree-clause-only : goal.returns-in_err-tree-clause-only
returns-in_err-tree-clause-only c =
    nothing_given (IsOnly level.Conditional c.args.tokens.now None) _ c.from_residual.result c.in_err-tree.field-0.0
    (λ nothing s spelled. no_assertion c.args.tokens.now nothing s spelled.0 spelled.1 spelled.2)
    c.from_residual.ensures c.in_err-tree.ensures.only

pub returns-then-ends_assertion-clause-found : goal.returns-then-ends_assertion-clause-found
returns-then-ends_assertion-clause-found c word is =
    subst (λ e. SpellsSimple (word ∷ c.args.tokens.now) (leaf.Assert e)) (sym c.into_inner.ensures)
    (assertion_found word c.args.tokens.now c.in_ok-tree.rest.now c.in_ok-tree.tree is c.in_ok-tree.ensures.found (c.if-ends_assertion.ensures.0 refl))

pub returns-then-ends_assertion-clause-only : goal.returns-then-ends_assertion-clause-only
returns-then-ends_assertion-clause-only c s spelled =
    let read = assertion_read c.args.tokens.now c.in_ok-tree.rest.now c.in_ok-tree.tree c.in_ok-tree.ensures.only s spelled.0 spelled.1 spelled.2 in
    read.1 ∙ ap leaf.Assert (sym c.into_inner.ensures)

pub returns-else-ends_assertion-clause-only : goal.returns-else-ends_assertion-clause-only
returns-else-ends_assertion-clause-only c s spelled =
    let read = assertion_read c.args.tokens.now c.in_ok-tree.rest.now c.in_ok-tree.tree c.in_ok-tree.ensures.only s spelled.0 spelled.1 spelled.2 in
    true≢false (sym (c.if-ends_assertion.ensures.1 read.0))
