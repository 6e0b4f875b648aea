use Rattle.std.proofs.Common.{◌≡◌, drop}
use Rattle.pm_elab.specs.Classes.{names_one}
use Rattle.pm_class.proofs.arguments.names_one.Given as goal

abbrev pub invariant-loop-parameter : goal.invariant-loop-parameter
invariant-loop-parameter l = names_one l.argument.name (drop l.parameter-index l.parameters) ≡ names_one l.argument.name l.parameters
