use Rattle.std.proofs.Common.{◌≡◌, drop}
use Rattle.pm_elab.specs.Functions.{value_named}
use Rattle.pm_elab.proofs.given.value_named.Given as goal

abbrev pub invariant-loop-argument : goal.invariant-loop-argument
invariant-loop-argument l = value_named (drop l.argument-index l.given) l.parameter ≡ value_named l.given l.parameter
