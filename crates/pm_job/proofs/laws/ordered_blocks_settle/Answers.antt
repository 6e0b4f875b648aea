use Rattle.pm_job.proofs.Orders.{ordered_settles}
use Rattle.pm_job.proofs.laws.ordered_blocks_settle.Goals as goal

pub returns : goal.returns
returns c = ordered_settles
