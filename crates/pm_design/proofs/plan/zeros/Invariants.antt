use Rattle.std.proofs.Common.{◌≡◌, ◌++◌, drop, map}
use Rattle.pm_design.specs.Ports.{top_signals, zero_for}
use Rattle.pm_design.proofs.plan.zeros.Given as goal

-- the values so far, and those of the inputs that are left
abbrev pub invariant-loop-number : goal.invariant-loop-number
invariant-loop-number l =
    (l.values ++ map (zero_for l.plan) (drop l.number-index l.number-items) ≡ map (zero_for l.plan) l.number-items)
    × (l.signals ≡ top_signals l.plan)
