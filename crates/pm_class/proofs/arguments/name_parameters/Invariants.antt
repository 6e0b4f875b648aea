use Rattle.std.proofs.Common.{◌≡◌, length}
use Rattle.pm_elab.specs.Classes.{name_parameters}
use Rattle.pm_class.proofs.arguments.name_parameters.Given as goal

abbrev pub invariant-loop-rest : goal.invariant-loop-rest
invariant-loop-rest l = name_parameters l.rest l.parameters ≡ name_parameters l.given l.parameters

abbrev pub decreases-loop-rest : goal.decreases-loop-rest
decreases-loop-rest l = length l.rest
