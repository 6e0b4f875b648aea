use Rattle.std.proofs.Common.{take}
use Rattle.pm_edges.specs.Wrong.{IsLeast, is_wrong_at}
use Rattle.pm_edges.proofs.terms.least_wrong.Given as goal

abbrev pub invariant-loop-rule : goal.invariant-loop-rule
invariant-loop-rule l = IsLeast (is_wrong_at l.kind (take l.rule-index l.kind.rules)) l.least
