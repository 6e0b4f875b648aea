use Rattle.std.proofs.Common.{arith}
use Rattle.pm_sched.proofs.Extended.{none_extended, more_extended, all_extended}
use Rattle.pm_sched.proofs.closing.close_through.Goals as goal

pub loop-row-init : goal.loop-row-init
loop-row-init c = none_extended c.args.table.now c.args.middle

pub loop-row-preserved : goal.loop-row-preserved
loop-row-preserved c = more_extended c.args.table.now c.loop-row.table c.extend_row.new.table c.args.middle c.loop-row.row c.loop-row.invariant c.extend_row.ensures

pub returns : goal.returns
returns c = all_extended c.args.table.now c.loop-row.table c.args.middle c.loop-row.row (omega (arith, c.loop-row-test.false, c.rows-row-end.ensures)) c.loop-row.invariant
