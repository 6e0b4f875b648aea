use Rattle.std.proofs.Common.{◌≡◌, ◌+◌, ◌-◌, ◌≤◌}
use Rattle.pm_design.specs.Widths.{log_of, log_from}
use Rattle.pm_type_expr.proofs.functions.count_width.Given as goal

abbrev pub invariant-loop-width : goal.invariant-loop-width
invariant-loop-width l = (l.width ≤ l.most + 1) × (log_from (l.most + 1 - l.width) l.width (l.most + 1) ≡ log_of (l.most + 1))
