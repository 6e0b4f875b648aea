use Rattle.pm_elab_laws.proofs.Given.{designs_sound}
use Rattle.pm_elab_laws.proofs.laws.designs_are_sound.Goals as goal

pub returns : goal.returns
returns c = designs_sound
