use Rattle.pm_cons.proofs.Left.{same_at, left_is, left_to_enough}
use Rattle.pm_cons.proofs.laws.blocks_leave_their_run.Goals as goal

pub returns-clause-run : goal.returns-clause-run
returns-clause-run g c = λ d start b p within ordered. same_at _ _ (left_is d start within ordered b) p

pub returns-clause-depth : goal.returns-clause-depth
returns-clause-depth g c = λ d start k b p within ordered lt.
    same_at _ _ (left_to_enough d start within ordered k b lt) p
