use Rattle.pm_cons.proofs.Cycles.{cycle_some, one_cycle}
use Rattle.pm_cons.proofs.Erasing.{cycle_short}
use Rattle.pm_cons.proofs.laws.one_cycle_is_reported.Goals as goal

pub returns-clause-some : goal.returns-clause-some
returns-clause-some c = λ g within loop. cycle_some g within loop

pub returns-clause-only : goal.returns-clause-only
returns-clause-only c = λ g a b xs ys within one two. one_cycle g within a b xs ys one two

pub returns-clause-short : goal.returns-clause-short
returns-clause-short c = λ g a xs within cycle. cycle_short g within a xs cycle
