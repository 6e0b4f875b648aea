use Rattle.std.proofs.Common.{◌≡◌, drop}
use Rattle.pm_elab.specs.Equality.{same_arguments}
use Rattle.pm_class.proofs.equality.+same.Given as goal

abbrev pub invariant-same_arguments-loop-index : goal.invariant-same_arguments-loop-index
invariant-same_arguments-loop-index l = same_arguments (drop l.index l.a) (drop l.index l.b) ≡ same_arguments l.a l.b
