-- The reported cycle: the shortest through the least block on a loop, and of the shortest the least list.
use Rattle.std.specs.Prelude.{◌≡◌, ◌<◌, ◌≤◌, ◌⊎◌, ℕ, List, [], ◌∷◌, IsTrue, IsFalse, length}
use Rattle.pm_cons.specs.Precedence.{Precedence, precedes}

-- an edge leads from a to the first block of the list, from each block to the next, and from the last to `to`
abbrev pub LeadsAlong : Precedence → ℕ → List ℕ → ℕ → Type 0
LeadsAlong g a [] to = IsTrue (g.before a to)
LeadsAlong g a (x ∷ xs) to = IsTrue (g.before a x) × LeadsAlong g x xs to

-- the first list is the second or a prefix of it, or has the lesser number where they first differ
abbrev pub IsUpTo : List ℕ → List ℕ → Type 0
IsUpTo [] ys = Unit {0}
IsUpTo (x ∷ xs) [] = ⊥
IsUpTo (x ∷ xs) (y ∷ ys) = (x < y) ⊎ ((x ≡ y) × IsUpTo xs ys)

-- the reported cycle is a and then the list
pub record IsReportedCycle (g : Precedence) (a : ℕ) (xs : List ℕ) : Type 0 where
  pub known : a < g.count
  pub least_block : (b : ℕ) → b < a → IsFalse (precedes g b b)
  pub loop : LeadsAlong g a xs a
  pub shortest : (ys : List ℕ) → LeadsAlong g a ys a → length xs ≤ length ys
  pub least : (ys : List ℕ) → LeadsAlong g a ys a → length xs ≡ length ys → IsUpTo xs ys
