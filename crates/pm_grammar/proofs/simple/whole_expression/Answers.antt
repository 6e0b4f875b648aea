use Rattle.std.proofs.Common.{None, sym}
use Rattle.pm_grammar.specs.Reading.{IsOnly}
use Rattle.pm_grammar.specs.declared.level.Level.TheVariants as level
use Rattle.pm_grammar.proofs.ReadAnswers.{nothing_given}
use Rattle.pm_grammar.proofs.SimpleStatements.{some_tokens, whole_none, whole_some}
use Rattle.pm_grammar.proofs.simple.whole_expression.Goals as goal

pub returns-in_err-tree-clause-only : goal.returns-in_err-tree-clause-only
returns-in_err-tree-clause-only c =
    nothing_given (IsOnly level.Conditional c.args.tokens.now None) _ c.from_residual.result c.in_err-tree.field-0.0
    (λ nothing e spelled. whole_none c.args.tokens.now nothing e spelled)
    c.from_residual.ensures c.in_err-tree.ensures.only

pub returns-then-is_empty-clause-only : goal.returns-then-is_empty-clause-only
returns-then-is_empty-clause-only c e spelled = (whole_some c.args.tokens.now c.in_ok-tree.rest.now c.in_ok-tree.tree c.in_ok-tree.ensures.only e spelled).0

pub returns-else-is_empty-clause-only : goal.returns-else-is_empty-clause-only
returns-else-is_empty-clause-only c e spelled =
    some_tokens c.in_ok-tree.rest.now c.if-is_empty.ensures (sym (whole_some c.args.tokens.now c.in_ok-tree.rest.now c.in_ok-tree.tree c.in_ok-tree.ensures.only e spelled).1)
