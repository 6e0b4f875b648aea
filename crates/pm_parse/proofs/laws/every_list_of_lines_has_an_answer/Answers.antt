use Rattle.pm_parse.proofs.FileAnswers as law
use Rattle.pm_parse.proofs.laws.every_list_of_lines_has_an_answer.Goals as goal

pub returns : goal.returns
returns c = law.every_list_of_lines_has_an_answer
