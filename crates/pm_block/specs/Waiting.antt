-- Assignments that wait for the end of a block, and what they will do.
use Rattle.std.specs.Prelude.{ℕ, ◌==◌, ◌&&◌, Bool, List, [], ◌∷◌}
use Rattle.std.specs.List.{list_all}
use Rattle.pm_bits.specs.Word.{Word}
use Rattle.pm_design.specs.Layout.{Layout, is_put, net_from}
use Rattle.pm_block.specs.declared.waiting.Write.{Write}
use Rattle.pm_block.specs.Places.{Valuation, Items, put_at}
use Rattle.pm_block.specs.Run.{State, temps_of}
use Rattle.pm_block.specs.Value.{Temporaries}

-- the assignments that wait, in turn, and how many there may be
pub record Queue : Type 0 where
  pub writes : List Write
  pub room : ℕ

-- the values once all assignments have taken effect in turn
abbrev pub settled : Layout → List Write → Valuation → Valuation
settled layout [] v = v
settled layout (w ∷ ws) v = settled layout ws (put_at (net_from layout w.part.bit) w.part.width w.value v)

-- the state that places, waiting assignments and temporaries are
abbrev pub state_with : Layout → Valuation → Items → List Write → Temporaries → State
state_with layout v items writes temps =
    record { places = v; items = items; later = settled layout writes; temps = temps }

-- the same, of a list of temporaries
abbrev pub state_of : Layout → Valuation → Items → List Write → List Word → State
state_of layout v items writes temps = state_with layout v items writes (temps_of temps)

-- assignments that may be made
abbrev pub all_fit : Layout → List Write → Bool
all_fit layout = list_all (λ w. is_put layout w.part && w.value.width == w.part.width)
