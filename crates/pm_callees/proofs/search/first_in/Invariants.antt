use Rattle.std.proofs.Common.{◌≡◌}
use Rattle.pm_instances.specs.Laid.{laid_out}
use Rattle.pm_callees.specs.Search.{NoneBefore}
use Rattle.pm_callees.proofs.search.first_in.Given as goal

abbrev pub invariant-loop-port : goal.invariant-loop-port
invariant-loop-port l =
    (l.sets ≡ l.fn.sets) × NoneBefore (laid_out l.design) l.fn.sets l.tally l.wanted l.i l.port
