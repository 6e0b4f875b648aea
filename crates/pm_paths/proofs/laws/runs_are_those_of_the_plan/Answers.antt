use Rattle.pm_paths.proofs.PlansSettle.{runs_are_those}
use Rattle.pm_paths.proofs.laws.runs_are_those_of_the_plan.Goals as goal

pub returns : goal.returns
returns c = runs_are_those
