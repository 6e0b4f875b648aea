use Rattle.std.proofs.Common.{◌≡◌, drop, map}
use Rattle.std.specs.List.{list_all}
use Rattle.pm_elab.specs.Values.{is_element}
use Rattle.pm_elab.proofs.sort.+element.Given as goal

abbrev pub invariant-are_elements-loop-value : goal.invariant-are_elements-loop-value
invariant-are_elements-loop-value l = list_all (λ b. b) (map is_element (drop l.value-index l.values)) ≡ list_all (λ b. b) (map is_element l.values)
