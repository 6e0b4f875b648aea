use Rattle.pm_edges.proofs.Settle.{settle_by_edges}
use Rattle.pm_edges.proofs.laws.plans_settle_by_their_edges.Goals as goal

pub returns : goal.returns
returns c = settle_by_edges
