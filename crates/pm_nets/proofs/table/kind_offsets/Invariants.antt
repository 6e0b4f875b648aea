use Rattle.std.proofs.Common.{◌≡◌, ◌+◌, ◌++◌, drop, map}
use Rattle.pm_design.specs.Instances.{first_bits_from}
use Rattle.pm_design.specs.Widths.{total}
use Rattle.pm_nets.proofs.table.kind_offsets.Given as goal

abbrev pub invariant-loop-signal : goal.invariant-loop-signal
invariant-loop-signal l =
    (l.offsets ++ first_bits_from l.bit (drop l.signal-index l.signal-items) ≡ first_bits_from 0 l.signal-items)
    × (l.bit + total (map (λ s. s.width) (drop l.signal-index l.signal-items)) ≡ total
    (map (λ s. s.width) l.signal-items))
    × (l.signal-items ≡ l.kind.signals)
