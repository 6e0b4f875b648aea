use Rattle.pm_syn.proofs.EveryAnswer.{every_answer}
use Rattle.pm_syn.proofs.laws.every_text_has_an_answer.Goals as goal

pub returns : goal.returns
returns c = every_answer
