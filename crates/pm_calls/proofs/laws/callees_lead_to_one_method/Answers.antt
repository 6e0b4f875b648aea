use Rattle.pm_calls.proofs.Reaching.{one_target, own_target}
use Rattle.pm_calls.proofs.laws.callees_lead_to_one_method.Goals as goal

pub returns-clause-chained : goal.returns-clause-chained
returns-clause-chained c = one_target

pub returns-clause-named : goal.returns-clause-named
returns-clause-named c = own_target
