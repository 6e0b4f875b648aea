use Rattle.pm_build.proofs.Makings.{levels}
use Rattle.pm_build.proofs.make.+make_at.Given as goal

abbrev pub decreases-make_at : goal.decreases-make_at
decreases-make_at l = levels l.level
