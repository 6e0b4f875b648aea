use Rattle.std.proofs.Common.{◌≡◌}
use Rattle.pm_instances.specs.Laid.{laid_out}
use Rattle.pm_callees.specs.Tally.{AreCounted}
use Rattle.pm_callees.proofs.tally.count_methods.Given as goal

abbrev pub invariant-loop-i : goal.invariant-loop-i
invariant-loop-i l =
    (l.sets ≡ l.fn.sets) × AreCounted (laid_out l.design) l.fn.sets l.i 0 l.tally.items
