use Rattle.std.proofs.Common.{◌≡◌, ◌<◌, ◌≤◌, ℕ, IsTrue, true}
use Rattle.bit_table.specs.Tables.{is_set}
use Rattle.pm_sched.specs.Tables.{flag}
use Rattle.pm_sched.proofs.predecessors.first_missing.Given as goal

abbrev pub invariant-loop-other : goal.invariant-loop-other
invariant-loop-other l = (l.from ≤ l.other) ×
    ((k : ℕ) → l.from ≤ k → k < l.other → IsTrue (is_set l.predecessors l.block k) → flag l.listed k ≡ true)
