-- Layers of blocks from which walks of one length lead to a block, and the reported cycle as one list.
use Rattle.std.specs.Prelude.{◌≡◌, ◌<◌, ℕ, List, ◌∷◌, IsTrue, IsFalse, ◌&&◌, leb}
use Rattle.bit_table.specs.Tables.{Table, is_set}
use Rattle.pm_cons.specs.Cycles.{IsReportedCycle}
use Rattle.pm_cons.specs.Precedence.{Precedence}
use Rattle.pm_cons.specs.Walks.{walks}
use Rattle.pm_sched.specs.Tables.{precedence_in}

-- the list is the reported cycle, and begins with a
abbrev pub IsCycleFrom : Precedence → ℕ → List ℕ → Type 0
IsCycleFrom g a list = (xs : List ℕ) × (list ≡ a ∷ xs) × IsReportedCycle g a xs

-- the list is the reported cycle, from some block
abbrev pub IsReported : Precedence → List ℕ → Type 0
IsReported g list = (a : ℕ) × IsCycleFrom g a list

-- in each row up to k are the blocks from which a walk with as many blocks between as its number leads to a
pub record AreLayers (predecessors layers : Table) (a k : ℕ) : Type 0 where
  pub rows : layers.rows ≡ predecessors.rows
  pub columns : layers.columns ≡ predecessors.columns
  pub bits : (j b : ℕ) → is_set layers j b ≡ (leb j k && walks j (precedence_in predecessors) b a)

-- a walk with k blocks between leads from a to itself, and none with fewer
pub record IsLength (g : Precedence) (a k : ℕ) : Type 0 where
  pub known : k < g.count
  pub there : IsTrue (walks k g a a)
  pub shortest : (j : ℕ) → j < k → IsFalse (walks j g a a)
