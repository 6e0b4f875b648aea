use Rattle.pm_elab_laws.proofs.SignalNames.{signals_differ}
use Rattle.pm_elab_laws.proofs.laws.signals_have_different_names.Goals as goal

pub returns : goal.returns
returns c = signals_differ
