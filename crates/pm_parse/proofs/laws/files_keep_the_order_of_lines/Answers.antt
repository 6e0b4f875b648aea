use Rattle.pm_parse.proofs.FileLines as law
use Rattle.pm_parse.proofs.laws.files_keep_the_order_of_lines.Goals as goal

pub returns : goal.returns
returns c = law.files_keep_the_order_of_lines
