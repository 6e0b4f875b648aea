use Rattle.pm_made_laws.proofs.PackedShapes.{bitstructs_packed}
use Rattle.pm_made_laws.proofs.laws.bitstructs_are_packed.Goals as goal

pub returns : goal.returns
returns c = bitstructs_packed
