use Rattle.pm_file_laws.proofs.TextNames.{files_declare_proper_names}
use Rattle.pm_file_laws.proofs.laws.files_declare_proper_names.Goals as goal

pub returns : goal.returns
returns c = files_declare_proper_names
