use Rattle.std.proofs.Common.{◌≡◌, ◌++◌, drop, map}
use Rattle.pm_design.specs.Ports.{top_signal, top_signals}
use Rattle.pm_trace.proofs.ports.input_names.Given as goal

-- the names so far, and those of the inputs that are left
abbrev pub invariant-loop-number : goal.invariant-loop-number
invariant-loop-number l =
    (l.names ++ map (λ n. (top_signal l.plan n).name) (drop l.number-index l.number-items) ≡ map (λ n. (top_signal l.plan n).name) l.number-items)
    × (l.signals ≡ top_signals l.plan)
