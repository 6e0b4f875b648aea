use Rattle.pm_grammar.proofs.OneExpression as law
use Rattle.pm_grammar.proofs.laws.tokens_spell_one_expression.Goals as goal

pub returns : goal.returns
returns c = law.tokens_spell_one_expression
