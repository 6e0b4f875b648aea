use Rattle.std.proofs.lemmas.Int.{to_z-of_z}
use Rattle.pm_elab.proofs.Constants.{constant_is}
use Rattle.pm_elab.proofs.sort.constant_of.Goals as goal

pub returns : goal.returns
returns c = rw (to_z-of_z _ _ c.ranges.number) at (constant_is _ _ _ c.of_int.ensures.none c.of_int.ensures.value)
