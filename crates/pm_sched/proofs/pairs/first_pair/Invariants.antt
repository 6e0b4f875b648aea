use Rattle.std.proofs.Common.{◌<◌, ℕ, IsTrue, IsFalse}
use Rattle.bit_table.specs.Tables.{is_set}
use Rattle.pm_cons.specs.Edges.{is_listed}
use Rattle.pm_sched.proofs.pairs.first_pair.Given as goal

abbrev pub invariant-loop-first : goal.invariant-loop-first
invariant-loop-first l = (c d : ℕ) → c < l.first → IsTrue (is_listed l.conflicts c d) → IsFalse (is_set l.table c d) → IsFalse (is_set l.table d c) → ⊥
