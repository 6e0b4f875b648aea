use Rattle.std.proofs.Common.{◌≡◌, map, take}
use Rattle.pm_types.proofs.designs.by_line.Given as goal

abbrev pub invariant-loop-body : goal.invariant-loop-body
invariant-loop-body l = map (λ r. r.now) l.order.items ≡ take l.body-index l.bodies
