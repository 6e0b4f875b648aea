use Rattle.std.proofs.Common.{◌≡◌, ◌++◌, drop}
use Rattle.design_copy.proofs.expressions.+expression.Given as goal

abbrev pub invariant-copy_expressions-loop-tree : goal.invariant-copy_expressions-loop-tree
invariant-copy_expressions-loop-tree l = l.copied ++ drop l.tree-index l.trees ≡ l.trees
