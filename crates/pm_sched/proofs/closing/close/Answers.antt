use Rattle.pm_sched.proofs.Extended.{none_closed, more_closed}
use Rattle.pm_sched.proofs.closing.close.Goals as goal

pub loop-middle-init : goal.loop-middle-init
loop-middle-init c = none_closed c.args.table.now

pub loop-middle-preserved : goal.loop-middle-preserved
loop-middle-preserved c = more_closed c.args.table.now c.loop-middle.table c.close_through.new.table c.loop-middle.middle c.loop-middle.invariant c.close_through.ensures
