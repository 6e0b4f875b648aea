use Rattle.pm_paths.proofs.PlansSettle.{plans_are_local}
use Rattle.pm_paths.proofs.laws.blocks_of_plans_are_local.Goals as goal

pub returns : goal.returns
returns c = plans_are_local
