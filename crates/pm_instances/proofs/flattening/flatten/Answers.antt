use Rattle.std.proofs.Common.{◌∙◌, ◌++◌, List, None, refl, ap, codes}
use Rattle.pm_design.specs.declared.plan.Instance.{Instance}
use Rattle.pm_instances.specs.declared.flattening.Progress.{Progress}
use Rattle.pm_instances.specs.Adding.{below, place_of}
use Rattle.pm_instances.proofs.Visits.{whole_room, whole_is}
use Rattle.pm_instances.proofs.flattening.flatten.Goals as goal

pub visit-requires-clause-room : goal.visit-requires-clause-room
visit-requires-clause-room c =
    let empty : Progress = record { instances = c.new.result; bit = 0; state = 0 } in
    whole_room c.args.design.now c.requires.design (codes "s") empty c.requires.bits c.new.ensures.items refl refl
    refl

pub returns : goal.returns
returns c =
    let empty : Progress = record { instances = c.new.result; bit = 0; state = 0 } in
    let whole : List Instance = below c.args.design.now None (codes "s") (place_of empty) c.args.design.now.top in
    c.from_vec.ensures ∙ (c.in_ok-visit.ensures.instances ∙ (ap (λ (is : List Instance). is ++
    whole) c.new.ensures.items
    ∙ whole_is c.args.design.now c.requires.design (codes "s") empty c.new.ensures.items refl refl refl))
