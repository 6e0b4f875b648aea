use Rattle.show_orders.proofs.Rows.{AreRows}
use Rattle.show_orders.proofs.edges.edges_in.Given as goal

abbrev pub invariant-loop-block : goal.invariant-loop-block
invariant-loop-block l = AreRows l.count l.after l.block
