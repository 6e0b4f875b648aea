use Rattle.std.proofs.Common.{◌≡◌, ◌+◌, ◌<◌, ◌-◌, drop, length, map, take}
use Rattle.pm_design.specs.Widths.{total}
use Rattle.pm_nets.proofs.naming.signal_with.Given as goal

abbrev pub decreases-loop-signal : goal.decreases-loop-signal
decreases-loop-signal l = length l.signals - l.signal

abbrev pub invariant-loop-signal : goal.invariant-loop-signal
invariant-loop-signal l =
    (l.rest < total (map (λ s. s.width) (drop l.signal l.signals)))
    × (l.fn.bit ≡ total (map (λ s. s.width) (take l.signal l.signals)) + l.rest)
