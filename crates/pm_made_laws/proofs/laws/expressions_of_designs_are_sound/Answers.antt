use Rattle.pm_made_laws.proofs.TypedPlaces.{expressions_of_designs}
use Rattle.pm_made_laws.proofs.laws.expressions_of_designs_are_sound.Goals as goal

pub returns : goal.returns
returns c = expressions_of_designs
