use Rattle.pm_syn.proofs.IndentedLines.{lines_indented}
use Rattle.pm_syn.proofs.laws.lines_are_indented.Goals as goal

pub returns : goal.returns
returns c = lines_indented
