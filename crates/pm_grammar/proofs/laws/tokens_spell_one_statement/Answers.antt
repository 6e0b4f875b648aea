use Rattle.pm_grammar.proofs.OneStatement as law
use Rattle.pm_grammar.proofs.laws.tokens_spell_one_statement.Goals as goal

pub returns : goal.returns
returns c = law.tokens_spell_one_statement
