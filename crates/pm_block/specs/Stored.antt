-- The values of places as they are stored.
use Rattle.std.specs.Prelude.{Bool, false, List, slice_index_or, if◌then◌else◌}
use Rattle.pm_design.specs.Layout.{Layout}
use Rattle.pm_block.specs.Places.{Held, Valuation}

-- one bit for each net, and what each state holds
pub record Stored : Type 0 where
  pub layout : Layout
  pub bits : List Bool
  pub held : List Held

-- the value of each net
abbrev pub at_of : List Bool → Valuation
at_of bits net = if slice_index_or bits net false then 1 else 0
