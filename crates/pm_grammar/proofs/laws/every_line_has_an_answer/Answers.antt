use Rattle.pm_grammar.proofs.DecidedLines as law
use Rattle.pm_grammar.proofs.laws.every_line_has_an_answer.Goals as goal

pub returns : goal.returns
returns c = law.every_line_has_an_answer
