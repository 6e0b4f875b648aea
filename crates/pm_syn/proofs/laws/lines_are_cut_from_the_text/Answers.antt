use Rattle.pm_syn.proofs.CutFromText.{lines_cut}
use Rattle.pm_syn.proofs.laws.lines_are_cut_from_the_text.Goals as goal

pub returns : goal.returns
returns c = lines_cut
