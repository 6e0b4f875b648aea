use Rattle.pm_syn.proofs.FallingColumns.{columns_of_stack}
use Rattle.pm_syn.proofs.laws.columns_are_those_of_a_stack.Goals as goal

pub returns : goal.returns
returns c = columns_of_stack
