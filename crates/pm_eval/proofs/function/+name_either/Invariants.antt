use Rattle.std.proofs.Common.{length}
use Rattle.pm_eval.proofs.function.+name_either.Given as goal

abbrev pub decreases-name_either : goal.decreases-name_either
decreases-name_either l = length l.given.now
