use Rattle.std.proofs.Common.{arith}
use Rattle.pm_type_expr.proofs.Logs.{below_power, log_next}
use Rattle.pm_type_expr.proofs.functions.count_width.Goals as goal

pub loop-width-preserved : goal.loop-width-preserved
loop-width-preserved c = grind (arith, below_power, log_next)
