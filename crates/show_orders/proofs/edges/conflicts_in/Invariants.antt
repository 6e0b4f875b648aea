use Rattle.show_orders.proofs.Rows.{HasConflicts}
use Rattle.show_orders.proofs.edges.conflicts_in.Given as goal

abbrev pub invariant-loop-block : goal.invariant-loop-block
invariant-loop-block l = HasConflicts l.count l.conflicts l.block
