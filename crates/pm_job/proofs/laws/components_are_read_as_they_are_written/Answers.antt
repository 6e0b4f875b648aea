use Rattle.pm_job.proofs.WrittenComponents.{component_of_some, component_of-written}
use Rattle.pm_job.proofs.laws.components_are_read_as_they_are_written.Goals as goal

pub returns : goal.returns
returns c = λ class text component. (component_of_some class text component, component_of-written class text component)
