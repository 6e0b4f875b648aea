use Rattle.std.proofs.Common.{◌∙◌, sym}
use Rattle.pm_grammar.specs.Brackets.{SpellsLeaf}
use Rattle.pm_grammar.proofs.Atoms.{leaf_name, only_name}
use Rattle.pm_grammar.proofs.operand.leaf.Goals as goal

pub returns-then-is_name-clause-found : goal.returns-then-is_name-clause-found
returns-then-is_name-clause-found c =
    leaf_name c.args.token.now c.in_ok-from_slice.field-0 (c.in_ok-from_slice.ensures ∙ c.as_slice.ensures) (sym c.is_name.ensures ∙ c.if-is_name.true)

pub returns-then-is_name-clause-only : goal.returns-then-is_name-clause-only
returns-then-is_name-clause-only c =
    only_name c.args.token.now c.in_ok-from_slice.field-0 (c.in_ok-from_slice.ensures ∙ c.as_slice.ensures) (sym c.is_name.ensures ∙ c.if-is_name.true)

pub returns-then-is_word-clause-found : goal.returns-then-is_word-clause-found
returns-then-is_word-clause-found c = SpellsLeaf.true_word (sym c.is_word.ensures ∙ c.if-is_word.true)

pub returns-then-is_word-2-clause-found : goal.returns-then-is_word-2-clause-found
returns-then-is_word-2-clause-found c = SpellsLeaf.false_word (sym c.is_word-2.ensures ∙ c.if-is_word-2.true)

pub returns-in-Int-clause-found : goal.returns-in-Int-clause-found
returns-in-Int-clause-found c = SpellsLeaf.number c.in-Int.value c.in-Int.is
