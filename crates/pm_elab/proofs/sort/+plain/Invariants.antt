use Rattle.std.proofs.Common.{◌≡◌, drop, map}
use Rattle.std.specs.List.{list_all}
use Rattle.pm_elab.specs.Values.{is_plain}
use Rattle.pm_elab.proofs.sort.+plain.Given as goal

abbrev pub invariant-are_plain-loop-value : goal.invariant-are_plain-loop-value
invariant-are_plain-loop-value l = list_all (λ b. b) (map is_plain (drop l.value-index l.values)) ≡ list_all (λ b. b) (map is_plain l.values)
