use Rattle.std.proofs.Common.{◌≡◌, ◌++◌, drop}
use Rattle.pm_nets.specs.Givers.{outputs_from}
use Rattle.pm_nets.proofs.gifts.push_outputs.Given as goal

abbrev pub invariant-loop-signal : goal.invariant-loop-signal
invariant-loop-signal l = (l.number ≡ l.signal-index)
    × (l.parts.items ++ outputs_from l.owner l.signal-index (drop l.signal-index l.signals)
    ≡ l.fn.parts.items ++ outputs_from l.owner 0 l.signals)
