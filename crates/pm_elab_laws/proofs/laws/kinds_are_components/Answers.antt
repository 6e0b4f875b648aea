use Rattle.pm_elab_laws.proofs.WellBuilt.{components}
use Rattle.pm_elab_laws.proofs.laws.kinds_are_components.Goals as goal

-- src/laws.rt:30:1
pub returns : goal.returns
returns c = components
