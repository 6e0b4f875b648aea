use Rattle.pm_parse.proofs.FileNames as law
use Rattle.pm_parse.proofs.laws.files_have_proper_names.Goals as goal

pub returns : goal.returns
returns c = law.files_have_proper_names
