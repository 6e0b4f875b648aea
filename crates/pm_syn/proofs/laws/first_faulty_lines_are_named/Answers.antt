use Rattle.pm_syn.proofs.FaultyLines.{faulty_lines}
use Rattle.pm_syn.proofs.laws.first_faulty_lines_are_named.Goals as goal

pub returns : goal.returns
returns c = faulty_lines
