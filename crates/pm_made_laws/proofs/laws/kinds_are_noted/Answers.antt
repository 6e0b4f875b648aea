use Rattle.pm_made_laws.proofs.NotedKinds.{kinds_noted}
use Rattle.pm_made_laws.proofs.laws.kinds_are_noted.Goals as goal

pub returns : goal.returns
returns c = kinds_noted
