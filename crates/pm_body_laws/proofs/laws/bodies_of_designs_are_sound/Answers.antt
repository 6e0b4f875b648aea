use Rattle.pm_body_laws.proofs.Wholes.{bodies_of_designs}
use Rattle.pm_body_laws.proofs.laws.bodies_of_designs_are_sound.Goals as goal

pub returns : goal.returns
returns c = bodies_of_designs
