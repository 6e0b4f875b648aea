use Rattle.std.proofs.Common.{◌≡◌, ◌++◌, drop}
use Rattle.std.specs.Prelude.{◌&&◌}
use Rattle.pm_nets.specs.Faults.{is_source, lines_where}
use Rattle.pm_nets.proofs.check.misdirected_joins.Given as goal

abbrev pub invariant-loop-join : goal.invariant-loop-join
invariant-loop-join l =
    (l.join-items ≡ l.kind.joins)
    × (l.lines.items ++ lines_where (λ j. is_source l.design l.kind j.a && is_source l.design l.kind j.b)
    (λ j. j.line) (drop l.join-index l.join-items)
    ≡ l.fn.lines.items ++ lines_where (λ j. is_source l.design l.kind j.a && is_source l.design l.kind j.b)
    (λ j. j.line) l.join-items)
