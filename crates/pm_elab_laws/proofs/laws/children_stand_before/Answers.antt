use Rattle.pm_elab_laws.proofs.ChildKinds.{children_before}
use Rattle.pm_elab_laws.proofs.laws.children_stand_before.Goals as goal

pub returns : goal.returns
returns c = children_before
