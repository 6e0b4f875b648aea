use Rattle.std.proofs.Common.{◌≡◌, map, take}
use Rattle.pm_work.specs.Work.{counted, kind_nodes}
use Rattle.pm_work.proofs.working.count_kinds.Given as goal

abbrev pub invariant-loop-kind : goal.invariant-loop-kind
invariant-loop-kind l = l.counts.items ≡ map (λ k. counted (kind_nodes k)) (take l.kind-index l.kind-items)
