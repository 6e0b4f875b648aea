use Rattle.pm_job.proofs.Orders.{settled_permuted}
use Rattle.pm_job.proofs.laws.order_of_blocks_leaves_solutions.Goals as goal

pub returns : goal.returns
returns c = settled_permuted
