use Rattle.std.proofs.Common.{◌≡◌, drop}
use Rattle.pm_elab.specs.Constructs.{locals_from}
use Rattle.pm_class.proofs.start.locals_from.Given as goal

abbrev pub invariant-loop-index : goal.invariant-loop-index
invariant-loop-index l = locals_from l.names (drop l.index l.parameters) (drop l.index l.values) ≡ locals_from l.fn.names l.parameters l.values
