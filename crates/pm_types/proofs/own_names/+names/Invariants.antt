use Rattle.std.proofs.Common.{◌≡◌, ◌+◌, ◌*◌, drop, map}
use Rattle.pm_syn.specs.declared.statement.Node.{size-Node}
use Rattle.pm_types.specs.OwnNames.{all_added, node_names}
use Rattle.pm_types.proofs.own_names.+names.Given as goal

abbrev pub invariant-add_nodes-loop-node : goal.invariant-add_nodes-loop-node
invariant-add_nodes-loop-node l =
    all_added (map node_names (drop l.node-index l.nodes)) l.own ≡ all_added (map node_names l.nodes) l.fn.own

abbrev pub decreases-add_node : goal.decreases-add_node
decreases-add_node l = 2 * size-Node l.node.now

abbrev pub decreases-add_nodes : goal.decreases-add_nodes
decreases-add_nodes l = 2 * (goal.size-add_nodes l) + 1
