use Rattle.std.proofs.Common.{◌<◌, length, arith}
use Rattle.pm_block.specs.Places.{items_of}
use Rattle.pm_block.specs.Sites.{scene_here}
use Rattle.pm_block.specs.Value.{Temporaries}
use Rattle.pm_block.specs.Waiting.{state_with}
use Rattle.pm_block.proofs.Picked.{picked_there}
use Rattle.pm_block.proofs.run.assign_picked.Goals as goal

pub returns-then-value-parts-clause-state : goal.returns-then-value-parts-clause-state
returns-then-value-parts-clause-state g c = λ (ts : Temporaries).
    let below : c.args.index.value < length c.args.parts.now = omega arith in
    picked_there c.args.clocked (scene_here c.args.site.now (g.P.Places.layout c.args.places.now)).frame.names c.args.parts.now c.args.index.value c.value-then-value-parts.result c.part_at.result c.args.value
    (state_with (g.P.Places.layout c.args.places.now) (g.P.Places.at c.args.places.now) (items_of (g.P.Places.held c.args.places.now)) c.args.waiting.now.writes ts)
    (state_with (g.P.Places.layout c.assign.new.places) (g.P.Places.at c.assign.new.places) (items_of (g.P.Places.held c.assign.new.places)) c.assign.new.waiting.writes ts)
    c.value-then-value-parts.ensures.value below c.part_at.ensures (c.assign.ensures.state ts)
