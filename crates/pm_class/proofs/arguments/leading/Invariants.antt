use Rattle.std.proofs.Common.{◌≡◌, ◌+◌, drop}
use Rattle.pm_elab.specs.Classes.{leading}
use Rattle.pm_class.proofs.arguments.leading.Given as goal

abbrev pub invariant-loop-index : goal.invariant-loop-index
invariant-loop-index l = l.index + leading (drop l.index l.given) ≡ leading l.given
