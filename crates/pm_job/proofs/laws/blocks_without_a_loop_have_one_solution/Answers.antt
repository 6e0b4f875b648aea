use Rattle.pm_job.proofs.Rearranged.{one_solution}
use Rattle.pm_job.proofs.laws.blocks_without_a_loop_have_one_solution.Goals as goal

pub returns : goal.returns
returns c = one_solution
