use Rattle.std.specs.Prelude.{IsTrue}
use Rattle.vector_bench.proofs.traced.write_rows.Given as goal

abbrev pub invariant-loop-cycle : goal.invariant-loop-cycle
invariant-loop-cycle g l = IsTrue l.lines.live
