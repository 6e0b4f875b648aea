use Rattle.show_orders.proofs.Rows.{AreBelow}
use Rattle.show_orders.proofs.edges.blocks_after.Given as goal

abbrev pub invariant-loop-other : goal.invariant-loop-other
invariant-loop-other l = AreBelow l.count l.row
