use Rattle.std.proofs.Common.{◌≡◌}
use Rattle.pm_instances.specs.Laid.{laid_out}
use Rattle.pm_callees.specs.Tally.{AreCounted}
use Rattle.pm_callees.proofs.tally.count_instance.Given as goal

abbrev pub invariant-loop-method : goal.invariant-loop-method
invariant-loop-method l =
    (l.sets ≡ l.fn.sets) × AreCounted (laid_out l.design) l.fn.sets l.i l.method l.tally
