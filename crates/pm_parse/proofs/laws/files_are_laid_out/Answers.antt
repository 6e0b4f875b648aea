use Rattle.pm_parse.proofs.LaidOutFiles as law
use Rattle.pm_parse.proofs.laws.files_are_laid_out.Goals as goal

pub returns : goal.returns
returns c = law.files_are_laid_out
