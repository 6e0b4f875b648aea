use Rattle.pm_file_laws.proofs.TextNames.{designs_of_texts_are_sound}
use Rattle.pm_file_laws.proofs.laws.designs_of_texts_are_sound.Goals as goal

pub returns : goal.returns
returns c = designs_of_texts_are_sound
