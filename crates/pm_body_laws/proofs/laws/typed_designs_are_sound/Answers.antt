use Rattle.pm_body_laws.proofs.Wholes.{typed_designs}
use Rattle.pm_body_laws.proofs.laws.typed_designs_are_sound.Goals as goal

pub returns : goal.returns
returns c = typed_designs
