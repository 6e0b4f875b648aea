use Rattle.std.proofs.Common.{◌≡◌, ◌++◌, drop, map}
use Rattle.pm_elab.specs.Files.{argument_of}
use Rattle.pm_class.proofs.parameter.arguments_of.Given as goal

abbrev pub invariant-loop-param : goal.invariant-loop-param
invariant-loop-param l = l.given ++ map argument_of (drop l.param-index l.params) ≡ map argument_of l.params
