use Rattle.std.proofs.Common.{◌≡◌, ◌+◌, drop, map}
use Rattle.pm_design.specs.Widths.{total}
use Rattle.pm_instances.proofs.bits.own_bits.Given as goal

abbrev pub invariant-loop-signal : goal.invariant-loop-signal
invariant-loop-signal l =
    l.bits + total (map (λ s. s.width) (drop l.signal-index l.signal-items)) ≡ total
    (map (λ s. s.width) l.signal-items)
