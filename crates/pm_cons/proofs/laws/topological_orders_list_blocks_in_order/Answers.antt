use Rattle.pm_cons.proofs.Listing.{lists_in_order, topological}
use Rattle.pm_cons.proofs.laws.topological_orders_list_blocks_in_order.Goals as goal

pub returns-clause-lists : goal.returns-clause-lists
returns-clause-lists c = λ g order. lists_in_order g order

pub returns-clause-order : goal.returns-clause-order
returns-clause-order c = λ g order. topological g order
