use Rattle.std.proofs.Common.{◌≡◌}
use Rattle.pm_instances.specs.Laid.{laid_out}
use Rattle.pm_callees.specs.Search.{NoneBefore}
use Rattle.pm_callees.proofs.search.first_port.Given as goal

abbrev pub invariant-loop-instance : goal.invariant-loop-instance
invariant-loop-instance l =
    (l.sets ≡ l.fn.sets) × NoneBefore (laid_out l.design) l.fn.sets l.tally l.wanted l.instance 0
