use Rattle.show_orders.proofs.Rows.{AreGreaterBelow}
use Rattle.show_orders.proofs.edges.blocks_in_conflict.Given as goal

abbrev pub invariant-loop-other : goal.invariant-loop-other
invariant-loop-other l = AreGreaterBelow l.row l.block l.count l.other
