use Rattle.std.proofs.Common.{◌≡◌, ◌++◌, drop, not}
use Rattle.pm_nets.specs.Faults.{lines_where}
use Rattle.pm_nets.proofs.check.mismatched_joins.Given as goal

abbrev pub invariant-loop-join : goal.invariant-loop-join
invariant-loop-join l =
    l.lines.items ++ lines_where (λ j. not j.equal_types) (λ j. j.line) (drop l.join-index l.joins)
    ≡ l.fn.lines.items ++ lines_where (λ j. not j.equal_types) (λ j. j.line) l.joins
