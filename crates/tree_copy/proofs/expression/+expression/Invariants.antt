use Rattle.std.proofs.Common.{◌≡◌, ◌++◌, drop}
use Rattle.tree_copy.proofs.expression.+expression.Given as goal

abbrev pub invariant-copy_expressions-loop-tree : goal.invariant-copy_expressions-loop-tree
invariant-copy_expressions-loop-tree l = l.copied ++ drop l.tree-index l.trees ≡ l.trees

abbrev pub invariant-copy_arguments-loop-argument : goal.invariant-copy_arguments-loop-argument
invariant-copy_arguments-loop-argument l = l.copied ++ drop l.argument-index l.arguments ≡ l.arguments
