use Rattle.pm_syn.proofs.BadTokensNamed.{one_bad_token}
use Rattle.pm_syn.proofs.laws.texts_have_one_bad_token.Goals as goal

pub returns : goal.returns
returns c = one_bad_token
