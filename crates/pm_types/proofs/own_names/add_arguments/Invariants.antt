use Rattle.std.proofs.Common.{◌≡◌, drop}
use Rattle.pm_types.specs.OwnNames.{argument_names}
use Rattle.pm_types.proofs.own_names.add_arguments.Given as goal

abbrev pub invariant-loop-argument : goal.invariant-loop-argument
invariant-loop-argument l = argument_names (drop l.argument-index l.arguments) l.own ≡ argument_names l.arguments l.fn.own
