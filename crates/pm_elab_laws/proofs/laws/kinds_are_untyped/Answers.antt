use Rattle.pm_elab_laws.proofs.Untyped.{kinds_untyped}
use Rattle.pm_elab_laws.proofs.laws.kinds_are_untyped.Goals as goal

pub returns : goal.returns
returns c = kinds_untyped
