use Rattle.pm_syn.proofs.LinesRead.{exactly_these}
use Rattle.pm_syn.proofs.laws.lines_are_exactly_these.Goals as goal

pub returns : goal.returns
returns c = exactly_these
