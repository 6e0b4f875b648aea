use Rattle.pm_cons.proofs.Paths.{steps_some, steps_all}
use Rattle.pm_cons.proofs.laws.closure_is_steps.Goals as goal

pub returns-clause-path : goal.returns-clause-path
returns-clause-path c = λ g a b test. steps_some g a b test

pub returns-clause-test : goal.returns-clause-test
returns-clause-test c = λ g a b within path. steps_all g within a b path
