use Rattle.pm_syn.proofs.OneFault.{one_answer}
use Rattle.pm_syn.proofs.laws.texts_have_one_answer.Goals as goal

pub returns : goal.returns
returns c = one_answer
