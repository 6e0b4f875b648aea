-- Which update blocks come before which: a relation of numbered blocks, and its closure.
use Rattle.std.specs.Prelude.{◌<◌, ℕ, zero, suc, Bool, IsTrue, IsFalse, ◌&&◌, ◌||◌}
use Rattle.pm_cons.specs.Below.{any_below}

-- how many blocks there are, and whether an edge leads from one to another: then the one comes directly before the other
pub record Precedence : Type 0 where
  pub count : ℕ
  pub before : ℕ → ℕ → Bool

-- both ends of each edge are blocks
abbrev pub IsOfBlocks : Precedence → Type 0
IsOfBlocks g = (a b : ℕ) → IsTrue (g.before a b) → (a < g.count) × (b < g.count)

-- one or more edges lead from a to b
pub data Path (before : ℕ → ℕ → Bool) : ℕ → ℕ → Type 0 where
  Edge : (a b : ℕ) → IsTrue (before a b) → Path before a b
  Onward : (a b c : ℕ) → IsTrue (before a b) → Path before b c → Path before a c

-- whether edges lead from a to b through blocks below k alone: either without block k - 1, or to it and on from it
unfoldable pub precedes_through : ℕ → (ℕ → ℕ → Bool) → ℕ → ℕ → Bool
precedes_through zero before a b = before a b
precedes_through (suc k) before a b =
    precedes_through k before a b || (precedes_through k before a k && precedes_through k before k b)

-- the closure, as a test: whether a comes before b, directly or through other blocks
abbrev pub precedes : Precedence → ℕ → ℕ → Bool
precedes g a b = precedes_through g.count g.before a b

-- no block comes before itself
abbrev pub IsAcyclic : Precedence → Type 0
IsAcyclic g = (b : ℕ) → b < g.count → IsFalse (precedes g b b)

-- whether some block comes before itself
abbrev pub has_loop : Precedence → Bool
has_loop g = any_below g.count (λ b. precedes g b b)
