use Rattle.pm_io.proofs.LineCuts.{lines_cut}
use Rattle.pm_io.proofs.lines.lines_cut_the_text.Goals as goal

pub returns : goal.returns
returns c = lines_cut
