use Rattle.std.proofs.Common.{◌∙◌, None, sym}
use Rattle.std.proofs.lemmas.Bool.{both_ways}
use Rattle.pm_grammar.specs.Reading.{IsOnly}
use Rattle.pm_grammar.specs.declared.level.Level.TheVariants as level
use Rattle.pm_grammar.proofs.Headers.{no_guard, only_guard}
use Rattle.pm_grammar.proofs.ReadAnswers.{nothing_given}
use Rattle.pm_grammar.proofs.header.guard.Goals as goal

pub returns-in_err-condition-clause-only : goal.returns-in_err-condition-clause-only
returns-in_err-condition-clause-only c =
    nothing_given (IsOnly level.Conditional c.args.tokens.now None) _ c.from_residual.result c.in_err-condition.field-0.0
    (λ nothing e is. no_guard c.args.tokens.now nothing e is)
    c.from_residual.ensures c.in_err-condition.ensures.only

pub returns-then-is_lone_symbol-clause-only : goal.returns-then-is_lone_symbol-clause-only
returns-then-is_lone_symbol-clause-only c e is = (only_guard c.args.tokens.now _ _ c.in_ok-condition.ensures.only e is).0

pub returns-else-is_lone_symbol-clause-only : goal.returns-else-is_lone_symbol-clause-only
returns-else-is_lone_symbol-clause-only c e is =
    both_ways _ (sym c.is_lone_symbol.ensures ∙ c.if-is_lone_symbol.false) (only_guard c.args.tokens.now _ _ c.in_ok-condition.ensures.only e is).1
