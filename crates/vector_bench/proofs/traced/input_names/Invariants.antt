use Rattle.std.proofs.Common.{◌≤◌, length}
use Rattle.vector_bench.proofs.traced.input_names.Given as goal

abbrev pub invariant-loop-name : goal.invariant-loop-name
invariant-loop-name l = length l.names ≤ l.name-index
