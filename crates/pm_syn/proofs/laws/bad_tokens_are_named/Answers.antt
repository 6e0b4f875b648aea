use Rattle.pm_syn.proofs.BadTokensNamed.{bad_tokens_named}
use Rattle.pm_syn.proofs.laws.bad_tokens_are_named.Goals as goal

pub returns : goal.returns
returns c = bad_tokens_named
