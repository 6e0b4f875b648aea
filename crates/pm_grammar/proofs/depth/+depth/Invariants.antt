use Rattle.std.proofs.Common.{◌≡◌, nat_le, map, drop}
use Rattle.pm_grammar.specs.Depths.{depth_of, depth_of_argument, greatest}
use Rattle.pm_grammar.proofs.depth.+depth.Given as goal

-- what holds of the arguments left holds of all
abbrev pub invariant-are_arguments_within-loop-argument :
    goal.invariant-are_arguments_within-loop-argument
invariant-are_arguments_within-loop-argument l = nat_le (greatest (map depth_of_argument (drop l.argument-index l.arguments))) l.limit ≡ nat_le (greatest (map depth_of_argument l.arguments)) l.limit

-- what holds of the expressions left holds of all
abbrev pub invariant-are_within-loop-tree : goal.invariant-are_within-loop-tree
invariant-are_within-loop-tree l = nat_le (greatest (map depth_of (drop l.tree-index l.trees))) l.limit ≡ nat_le (greatest (map depth_of l.trees)) l.limit
