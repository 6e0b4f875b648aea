use Rattle.pm_parse.proofs.OneAnswer.{one_answer}
use Rattle.pm_parse.proofs.laws.files_have_one_answer.Goals as goal

pub returns : goal.returns
returns c = one_answer
