use Rattle.std.proofs.Common.{[]}
use Rattle.pm_cons.proofs.Breaking.{none_completes, completes_none}
use Rattle.pm_cons.proofs.laws.no_break_is_topological.Goals as goal

pub returns-clause-order : goal.returns-clause-order
returns-clause-order c = λ g order within none. none_completes g within order [] 0 none

pub returns-clause-none : goal.returns-clause-none
returns-clause-none c = λ g order topological. completes_none g order [] 0 topological
