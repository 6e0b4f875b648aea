use Rattle.std.proofs.Common.{◌≡◌, [], drop}
use Rattle.pm_types.specs.Designs.{all_bodies_from}
use Rattle.pm_types.proofs.designs.all_bodies.Given as goal

abbrev pub invariant-loop-number : goal.invariant-loop-number
invariant-loop-number l =
    all_bodies_from l.typed l.design (drop l.number l.design.design.kinds) (drop l.number l.design.kinds)
    ≡ all_bodies_from [] l.design l.design.design.kinds l.design.kinds
