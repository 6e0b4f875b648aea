use Rattle.std.proofs.Common.{◌≡◌, drop, map}
use Rattle.std.specs.List.{list_all}
use Rattle.pm_elab.specs.Values.{is_settled}
use Rattle.pm_elab.proofs.sort.+settled.Given as goal

abbrev pub invariant-are_settled-loop-value : goal.invariant-are_settled-loop-value
invariant-are_settled-loop-value l = list_all (λ b. b) (map is_settled (drop l.value-index l.values)) ≡ list_all (λ b. b) (map is_settled l.values)
