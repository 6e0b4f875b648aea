use Rattle.std.proofs.Common.{◌≡◌, [], drop, take}
use Rattle.pm_elab.specs.Files.{known_from}
use Rattle.pm_class.proofs.parameter.known_from.Given as goal

abbrev pub invariant-loop-index : goal.invariant-loop-index
invariant-loop-index l = known_from (take l.index l.params) (drop l.index l.params) l.parameters ≡ known_from [] l.params l.parameters
