use Rattle.pm_values.proofs.Logarithms.{none_under, log_between, value_between}
use Rattle.pm_values.proofs.integer.ceiling_log.Goals as goal

pub returns-then-n-lt1-clause-value : goal.returns-then-n-lt1-clause-value
returns-then-n-lt1-clause-value c = none_under c.args.n c.ranges.n c.if-n-lt1.true

pub returns-else-n-eq1-clause-least : goal.returns-else-n-eq1-clause-least
returns-else-n-eq1-clause-least c = log_between c.args.n c.ilog2.result c.ranges.n c.if-n-lt1.false c.ilog2.ensures.power_le c.ilog2.ensures.next_power_gt

pub returns-else-n-eq1-clause-value : goal.returns-else-n-eq1-clause-value
returns-else-n-eq1-clause-value c = value_between c.args.n c.ilog2.result c.ranges.n c.if-n-lt1.false c.ilog2.ensures.power_le c.ilog2.ensures.next_power_gt
