use Rattle.std.proofs.Common.{◌≡◌, drop}
use Rattle.pm_elab.specs.Files.{none_missing}
use Rattle.pm_class.proofs.parameter.none_missing.Given as goal

abbrev pub invariant-loop-parameter : goal.invariant-loop-parameter
invariant-loop-parameter l = none_missing l.params (drop l.parameter-index l.parameters) ≡ none_missing l.params l.parameters
