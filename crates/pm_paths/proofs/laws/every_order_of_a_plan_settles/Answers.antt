use Rattle.pm_paths.proofs.PlansSettle.{orders_agree, plans_settle}
use Rattle.pm_paths.proofs.laws.every_order_of_a_plan_settles.Goals as goal

pub returns-clause-settles : goal.returns-clause-settles
returns-clause-settles c = plans_settle

pub returns-clause-agree : goal.returns-clause-agree
returns-clause-agree c = orders_agree
