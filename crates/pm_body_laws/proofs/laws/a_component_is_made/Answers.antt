use Rattle.pm_type_laws.proofs.Samples.{sample_made}
use Rattle.pm_body_laws.proofs.Samples.{sample_called}
use Rattle.pm_body_laws.proofs.laws.a_component_is_made.Goals as goal

pub returns-clause-made : goal.returns-clause-made
returns-clause-made c = sample_made

pub returns-clause-called : goal.returns-clause-called
returns-clause-called c = sample_called
