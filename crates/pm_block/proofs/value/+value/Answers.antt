use Rattle.std.proofs.Common.{◌∙◌, ◌+◌, ◌*◌, ◌<◌, ◌≤◌, ◌^◌, List, sym, ap, arith, map}
use Rattle.pm_bits.specs.Word.{Word}
use Rattle.pm_design.specs.declared.body.Ex.{Ex}
use Rattle.pm_design.specs.Nodes.{nodes}
use Rattle.pm_design.specs.Widths.{total}
use Rattle.pm_block.specs.Sites.{inside_here, scene_here, sight_here, value_here}
use Rattle.pm_block.specs.Places.{items_of}
use Rattle.pm_block.specs.Run.{temps_of}
use Rattle.pm_block.specs.Value.{concatenated}
use Rattle.pm_block.proofs.Concatenations.{nodes_over_cat, parts_of_cat}
use Rattle.pm_block.proofs.Equations.{value_cat}
use Rattle.pm_block.proofs.Temporaries.{read_temp}
use Rattle.pm_block.proofs.value.+value.Goals as goal

pub value_of-held-requires : goal.value_of-held-requires
value_of-held-requires g t c =
    (read_temp c.args.site.now.scope.now (g.P.Places.layout c.args.places.now) c.args.temps.now c.args.ex.now c.in-Temp.t c.in-Temp.lo c.in-Temp.width c.in-Temp.is c.requires.sound).0

pub value_of-slice-requires-clause-within : goal.value_of-slice-requires-clause-within
value_of-slice-requires-clause-within g t c =
    let parts = read_temp c.args.site.now.scope.now (g.P.Places.layout c.args.places.now) c.args.temps.now c.args.ex.now c.in-Temp.t c.in-Temp.lo c.in-Temp.width c.in-Temp.is c.requires.sound in
    let within : c.in-Temp.lo + c.in-Temp.width ≤ (temps_of c.args.temps.now c.in-Temp.t).width = parts.1.1 in
    omega (arith, within, ap (λ (w : Word). w.width) c.held.ensures)

pub value_of-returns-in-Cat-clause-value : goal.value_of-returns-in-Cat-clause-value
value_of-returns-in-Cat-clause-value g t c =
    let layout = g.P.Places.layout c.args.places.now in
    let v = g.P.Places.at c.args.places.now in
    let held = g.P.Places.held c.args.places.now in
    let all : List Ex → Word = λ es. concatenated (map (value_here c.args.site.now layout v held c.args.temps.now) es) in
    c.concatenated.ensures.value
    ∙ (ap all c.as_slice-in-Cat.ensures
    ∙ (sym (value_cat ((scene_here c.args.site.now layout).ready v (items_of held)) (scene_here c.args.site.now layout).frame v (items_of held) (temps_of c.args.temps.now) c.in-Cat.parts)
    ∙ ap (value_here c.args.site.now layout v held c.args.temps.now) (sym c.in-Cat.is)))

pub value_of-concatenated-requires : goal.value_of-concatenated-requires
value_of-concatenated-requires g t c κs within =
    let count = nodes_over_cat (inside_here c.args.site.now).guard c.args.ex.now c.in-Cat.parts c.as_slice-in-Cat.result.now c.in-Cat.is c.as_slice-in-Cat.ensures in
    let parts = parts_of_cat (sight_here c.args.site.now (g.P.Places.layout c.args.places.now) c.args.temps.now) c.args.ex.now c.in-Cat.parts c.as_slice-in-Cat.result.now c.in-Cat.is c.as_slice-in-Cat.ensures c.requires.sound in
    let falls : 2 * total (map (nodes (inside_here c.args.site.now).guard) c.as_slice-in-Cat.result.now) + 1 < t = omega (arith, count, c.decreases) in
    let room : c.tick.new.self + total (map (nodes (inside_here c.args.site.now).guard) c.as_slice-in-Cat.result.now) < 2 ^ 64 = omega (arith, count, c.requires.room, c.tick.ensures) in
    (falls, (within.0, (within.1, (parts.0, (room, (parts.1.0, parts.1.1))))))
