-- Walks along the edges, by how many blocks they pass.
use Rattle.std.specs.Prelude.{◌≡◌, ℕ, zero, suc, List, Bool, ◌&&◌, length}
use Rattle.pm_cons.specs.Below.{any_below}
use Rattle.pm_cons.specs.Cycles.{LeadsAlong, IsUpTo}
use Rattle.pm_cons.specs.Precedence.{Precedence}

-- whether a walk leads from a to a block, with k blocks between
unfoldable pub walks : ℕ → Precedence → ℕ → ℕ → Bool
walks zero g a to = g.before a to
walks (suc k) g a to = any_below g.count (λ c. g.before a c && walks k g c to)

-- the least walk with k blocks between
pub record IsLeastWalk (g : Precedence) (k a to : ℕ) (xs : List ℕ) : Type 0 where
  pub leads : LeadsAlong g a xs to
  pub size : length xs ≡ k
  pub least : (ys : List ℕ) → length ys ≡ k → LeadsAlong g a ys to → IsUpTo xs ys
