use Rattle.pm_cons.proofs.Settling.{run_settles}
use Rattle.pm_cons.proofs.laws.every_order_settles.Goals as goal

pub returns : goal.returns
returns g c = λ d start order p within local ordered topological. run_settles d within local ordered start order topological p
