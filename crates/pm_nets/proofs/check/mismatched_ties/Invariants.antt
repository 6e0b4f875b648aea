use Rattle.std.proofs.Common.{◌≡◌, ◌++◌, drop}
use Rattle.pm_nets.specs.Faults.{is_without, lines_where}
use Rattle.pm_nets.proofs.check.mismatched_ties.Given as goal

abbrev pub invariant-loop-tie : goal.invariant-loop-tie
invariant-loop-tie l =
    l.lines.items ++ lines_where (λ t. is_without t.value) (λ t. t.line) (drop l.tie-index l.ties)
    ≡ l.fn.lines.items ++ lines_where (λ t. is_without t.value) (λ t. t.line) l.ties
