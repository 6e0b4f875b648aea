use Rattle.std.proofs.Common.{◌≡◌, [], drop, map}
use Rattle.pm_types.specs.Designs.{bodies_from}
use Rattle.pm_types.proofs.designs.typed_bodies.Given as goal

abbrev pub invariant-loop-body : goal.invariant-loop-body
invariant-loop-body l =
    bodies_from l.typed l.scope.design.now l.scope.kind.now l.scope.raw.now (map (λ r. r.now) (drop l.body-index l.bodies)) l.tally
    ≡ bodies_from [] l.scope.design.now l.scope.kind.now l.scope.raw.now (map (λ r. r.now) l.bodies) l.fn.tally
