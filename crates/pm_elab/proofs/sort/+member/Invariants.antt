use Rattle.std.proofs.Common.{◌≡◌, drop, map}
use Rattle.std.specs.List.{list_all}
use Rattle.pm_elab.specs.Values.{is_member}
use Rattle.pm_elab.proofs.sort.+member.Given as goal

abbrev pub invariant-are_members-loop-value : goal.invariant-are_members-loop-value
invariant-are_members-loop-value l = list_all (λ b. b) (map is_member (drop l.value-index l.values)) ≡ list_all (λ b. b) (map is_member l.values)
