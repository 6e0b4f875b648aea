use Rattle.std.proofs.Common.{◌∙◌, ap, arith, length}
use Rattle.pm_grammar.specs.Brackets.{SpellsAttribute}
use Rattle.pm_grammar.specs.Reading.{Begins, IsOnlyBeginning}
use Rattle.pm_grammar.proofs.ReadAnswers.{boxed_found, boxed_only, boxed_shorter}
use Rattle.pm_grammar.proofs.SuffixKinds.{attribute_found, only_attribute}
use Rattle.pm_grammar.proofs.operand.attribute.Goals as goal

pub returns-clause-found : goal.returns-clause-found
returns-clause-found c =
    boxed_found (Begins (SpellsAttribute c.args.tree) c.args.tokens.now) _ _ c.boxed.result c.boxed.ensures
    (attribute_found c.args.tokens.now c.in-Some.rest.now c.args.tree c.in-Some.name.now c.in_ok-name.name c.in-Some.ensures.0 c.in-Some.ensures.1 (c.in_ok-name.ensures ∙ c.as_slice.ensures))

pub returns-clause-only : goal.returns-clause-only
returns-clause-only c =
    boxed_only (IsOnlyBeginning (SpellsAttribute c.args.tree) c.args.tokens.now) _ _ c.boxed.result c.boxed.ensures
    (only_attribute c.args.tokens.now c.in-Some.rest.now c.args.tree c.in-Some.name.now c.in_ok-name.name c.in-Some.ensures.0 (c.in_ok-name.ensures ∙ c.as_slice.ensures))

pub returns-clause-shorter : goal.returns-clause-shorter
returns-clause-shorter c =
    let first = ap length c.in-Some.ensures.0 in
    boxed_shorter c.args.tokens.now _ _ c.boxed.result c.boxed.ensures (omega (arith, first))
