-- The default order of a precedence, and how far it is made.
use Rattle.std.specs.Prelude.{◌≡◌, ◌<◌, ◌≤◌, ℕ, List, Bool, IsTrue, IsFalse, length, slice_index}
use Rattle.bit_table.specs.Tables.{Table, is_set}
use Rattle.pm_cons.specs.DefaultOrder.{default_order_of}
use Rattle.pm_cons.specs.Orders.{IsTopological}
use Rattle.pm_cons.specs.Precedence.{Precedence, has_loop}

-- the list is the default order, which is a topological order of all blocks, and there is no loop
pub record IsDefaultOrder (g : Precedence) (order : List ℕ) : Type 0 where
  pub default : order ≡ default_order_of g
  pub topological : IsTopological g order
  pub no_loop : IsFalse (has_loop g)

-- the predecessors of each block that are below its number are listed
pub record AreStarts (table : Table) (listed : ℕ → Bool) (starts : List ℕ) : Type 0 where
  pub rows : length starts ≡ table.rows
  pub within : (b : ℕ) → slice_index starts b ≤ table.rows
  pub passed : (b a : ℕ) → a < slice_index starts b → IsTrue (is_set table b a) → IsTrue (listed a)
