use Rattle.pm_syn.proofs.LineEndsBetween.{lines_spaced}
use Rattle.pm_syn.proofs.laws.gaps_and_line_ends_stand_between_tokens.Goals as goal

pub returns : goal.returns
returns c = lines_spaced
