use Rattle.std.proofs.Common.{◌≡◌, nat_le, map, drop}
use Rattle.pm_grammar.specs.Depths.{depth_of_parameter, greatest}
use Rattle.pm_grammar.proofs.depth.are_parameters_within.Given as goal

-- what holds of the parameters left holds of all
abbrev pub invariant-loop-parameter : goal.invariant-loop-parameter
invariant-loop-parameter l = nat_le (greatest (map depth_of_parameter (drop l.parameter-index l.parameters))) l.limit ≡ nat_le (greatest (map depth_of_parameter l.parameters)) l.limit
