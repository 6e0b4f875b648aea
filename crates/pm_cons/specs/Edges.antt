-- The edges of a design's blocks as a precedence.
use Rattle.std.specs.Prelude.{◌≡◌, ℕ, List, [], Bool, length, slice_index_or}
use Rattle.pm_design.specs.declared.plan.Edges.{Edges}
use Rattle.pm_cons.specs.Orders.{has}
use Rattle.pm_cons.specs.Precedence.{Precedence, IsOfBlocks}

-- whether b is listed for a
abbrev pub is_listed : List (List ℕ) → ℕ → ℕ → Bool
is_listed rows a b = has (slice_index_or rows a []) b

-- a block comes directly before those that are listed after it
abbrev pub precedence_of : Edges → Precedence
precedence_of edges = record { count = edges.count; before = is_listed edges.after }

-- one list for each block, of blocks alone
pub record AreEdges (edges : Edges) : Type 0 where
  pub rows : length edges.after ≡ edges.count
  pub precedence : IsOfBlocks (precedence_of edges)
