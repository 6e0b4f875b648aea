use Rattle.pm_cons.proofs.Samples.{blocks_ordered, loop_found}
use Rattle.pm_cons.proofs.laws.two_blocks_are_ordered.Goals as goal

pub returns-clause-ordered : goal.returns-clause-ordered
returns-clause-ordered c = blocks_ordered

pub returns-clause-has_loop : goal.returns-clause-has_loop
returns-clause-has_loop c = loop_found
