use Rattle.std.proofs.Common.{◌≡◌, ◌++◌, drop}
use Rattle.tree_copy.proofs.node.+node.Given as goal

abbrev pub invariant-copy_nodes-loop-node : goal.invariant-copy_nodes-loop-node
invariant-copy_nodes-loop-node l = l.copied ++ drop l.node-index l.nodes ≡ l.nodes
