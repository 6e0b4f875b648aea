use Rattle.pm_type_laws.proofs.Samples.{sample_site, sample_value}
use Rattle.pm_type_laws.proofs.laws.a_name_has_a_value.Goals as goal

pub returns-clause-site : goal.returns-clause-site
returns-clause-site c = sample_site

pub returns-clause-value : goal.returns-clause-value
returns-clause-value c = sample_value
