use Rattle.std.proofs.Common.{◌≡◌, ◌++◌, length, map, reverse}
use Rattle.pm_parse.specs.declared.tree.Tree.{Tree}
use Rattle.pm_parse.proofs.tree.take_all.Given as goal

abbrev pub invariant-loop-tree : goal.invariant-loop-tree
invariant-loop-tree l = l.nodes ++ map (λ (t : Tree). t.node) (reverse l.trees) ≡ map (λ (t : Tree). t.node) (reverse l.fn.trees)

abbrev pub decreases-loop-tree : goal.decreases-loop-tree
decreases-loop-tree l = length l.trees
