use Rattle.std.proofs.Common.{◌≡◌, ◌++◌, length, reverse}
use Rattle.pm_parse.specs.StackedTrees.{left_at, nodes_under}
use Rattle.pm_parse.proofs.tree.take_deeper.Given as goal

abbrev pub invariant-loop-nodes : goal.invariant-loop-nodes
invariant-loop-nodes l = record {
  taken : l.nodes ++ nodes_under l.column (reverse l.trees) ≡ nodes_under l.column (reverse l.fn.trees);
  left : left_at l.column (reverse l.trees) ≡ left_at l.column (reverse l.fn.trees);
}

abbrev pub decreases-loop-nodes : goal.decreases-loop-nodes
decreases-loop-nodes l = length l.trees
