use Rattle.std.proofs.Common.{◌≡◌, ◌++◌, drop}
use Rattle.tree_copy.proofs.statement.copy_parameters.Given as goal

abbrev pub invariant-loop-parameter : goal.invariant-loop-parameter
invariant-loop-parameter l = l.copied ++ drop l.parameter-index l.parameters ≡ l.parameters
