use Rattle.std.proofs.Common.{◌≡◌, ◌<◌, [], ℕ}
use Rattle.std.specs.Prelude.{IsTrue}
use Rattle.pm_design.specs.Lookups.{kind_of}
use Rattle.pm_nets.specs.Faults.{has_instance, lines_of}
use Rattle.pm_nets.proofs.check.first_line.Given as goal

abbrev pub invariant-loop-k : goal.invariant-loop-k
invariant-loop-k l = (j : ℕ) → j < l.k → IsTrue (has_instance l.design j) →
    lines_of l.design l.check (kind_of l.design j) ≡ []
