use Rattle.std.proofs.Common.{◌≡◌, ◌++◌, drop}
use Rattle.pm_nets.specs.Faults.{is_source, lines_where}
use Rattle.pm_nets.proofs.check.misdirected_ties.Given as goal

abbrev pub invariant-loop-tie : goal.invariant-loop-tie
invariant-loop-tie l =
    (l.tie-items ≡ l.kind.ties)
    × (l.lines.items ++ lines_where (λ t. is_source l.design l.kind t.part) (λ t. t.line)
    (drop l.tie-index l.tie-items)
    ≡ l.fn.lines.items ++ lines_where (λ t. is_source l.design l.kind t.part) (λ t. t.line) l.tie-items)
