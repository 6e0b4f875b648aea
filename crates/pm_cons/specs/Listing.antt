-- A topological order in other words: by how the list splits at each of its blocks.
use Rattle.std.specs.Prelude.{◌≡◌, ◌<◌, ◌++◌, ℕ, List, ◌∷◌, IsTrue, IsFalse}
use Rattle.pm_cons.specs.Orders.{has}
use Rattle.pm_cons.specs.Precedence.{Precedence}

-- the list has exactly the blocks, each once, and has each edge's first block before its second
pub record ListsInOrder (g : Precedence) (order : List ℕ) : Type 0 where
  pub known : (b : ℕ) → IsTrue (has order b) → b < g.count
  pub all : (b : ℕ) → b < g.count → IsTrue (has order b)
  pub once : (earlier later : List ℕ) (b : ℕ) → order ≡ earlier ++ b ∷ later → IsFalse (has earlier b)
  pub before : (earlier later : List ℕ) (a b : ℕ) → order ≡ earlier ++ b ∷ later →
      IsTrue (g.before a b) → IsTrue (has earlier a)
