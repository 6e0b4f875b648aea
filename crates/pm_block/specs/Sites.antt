-- What the names of a body mean where it runs.
use Rattle.std.specs.Prelude.{List}
use Rattle.pm_bits.specs.Word.{Word}
use Rattle.pm_design.specs.declared.body.Ex.{Ex}
use Rattle.pm_design.specs.Layout.{Layout}
use Rattle.pm_design.specs.Nodes.{Inside, inside_of}
use Rattle.pm_design.specs.Typing.{Sight}
use Rattle.pm_block.specs.declared.site.Site.{Site}
use Rattle.pm_block.specs.Places.{Valuation, Held, items_of}
use Rattle.pm_block.specs.Plans.{scene_at, plain_sight, widths_of}
use Rattle.pm_block.specs.declared.waiting.Write.{Write}
use Rattle.pm_block.specs.Run.{Memory, Scene, State, temps_of}
use Rattle.pm_block.specs.Value.{value}
use Rattle.pm_block.specs.Waiting.{state_of}

-- what the names mean
abbrev pub scene_here : Site → Layout → Scene
scene_here site layout = scene_at site.plan.now site.instance site.scope.now layout

-- what a body may name that has neither states nor methods
abbrev pub sight_here : Site → Layout → List Word → Sight
sight_here site layout temps = plain_sight site.scope.now layout (widths_of temps)

-- the nodes of guards and methods
abbrev pub inside_here : Site → Inside
inside_here site = inside_of site.plan.now site.instance

-- the value of an expression
abbrev pub value_here : Site → Layout → Valuation → List Held → List Word → Ex → Word
value_here site layout v held temps e =
    value ((scene_here site layout).ready v (items_of held)) (scene_here site layout).frame v (items_of held)
    (temps_of temps) e

-- the state that places, waiting assignments and temporaries are
abbrev pub state_here : Layout → Valuation → List Held → List Write → List Word → State
state_here layout v held writes temps = state_of layout v (items_of held) writes temps

-- the values that places have
abbrev pub memory_of : Valuation → List Held → Memory
memory_of v held = record { places = v; items = items_of held }
