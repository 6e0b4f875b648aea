use Rattle.std.proofs.Common.{◌≡◌, ◌++◌, drop, not}
use Rattle.pm_nets.specs.Faults.{lines_where}
use Rattle.pm_nets.proofs.check.mismatched_binds.Given as goal

abbrev pub invariant-loop-bind : goal.invariant-loop-bind
invariant-loop-bind l =
    l.lines.items ++ lines_where (λ b. not b.equal_types) (λ b. b.line) (drop l.bind-index l.binds)
    ≡ l.fn.lines.items ++ lines_where (λ b. not b.equal_types) (λ b. b.line) l.binds
