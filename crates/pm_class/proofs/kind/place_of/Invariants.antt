use Rattle.std.proofs.Common.{◌≡◌, drop}
use Rattle.pm_elab.specs.Constructs.{kind_from}
use Rattle.pm_class.proofs.kind.place_of.Given as goal

abbrev pub invariant-loop-index : goal.invariant-loop-index
invariant-loop-index l = kind_from l.index (drop l.index l.kinds) l.class l.values ≡ kind_from 0 l.kinds l.class l.values
