use Rattle.std.proofs.Common.{◌≡◌, ◌++◌, drop}
use Rattle.pm_nets.specs.Drivers.{inputs_from}
use Rattle.pm_nets.proofs.driving.input_parts.Given as goal

abbrev pub invariant-loop-signal : goal.invariant-loop-signal
invariant-loop-signal l =
    (l.number ≡ l.signal-index)
    × (l.parts.items ++ inputs_from l.signal-index (drop l.signal-index l.signals) ≡ inputs_from 0 l.signals)
