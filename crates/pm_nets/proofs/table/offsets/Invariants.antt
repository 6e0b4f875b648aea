use Rattle.std.proofs.Common.{◌≡◌, ◌++◌, drop, map}
use Rattle.pm_design.specs.Instances.{first_bits_from}
use Rattle.pm_nets.proofs.table.offsets.Given as goal

abbrev pub invariant-loop-kind : goal.invariant-loop-kind
invariant-loop-kind l =
    (l.table ++ map (λ kind. first_bits_from 0 kind.signals) (drop l.kind-index l.kind-items)
    ≡ map (λ kind. first_bits_from 0 kind.signals) l.kind-items)
    × (l.kind-items ≡ l.design.kinds)
