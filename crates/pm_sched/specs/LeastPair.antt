-- The least pair of blocks that conflict and that nothing orders.
use Rattle.std.specs.Prelude.{◌≡◌, ◌<◌, ◌≤◌, ◌⊎◌, ℕ, List, [], IsTrue, length, slice_index, slice_index_or}
use Rattle.pm_cons.specs.Conflicts.{is_unordered}
use Rattle.pm_cons.specs.Precedence.{Precedence}

-- the pair is unordered, and no other such pair comes before it, by the first block and then by the second
pub record IsLeastPair (g : Precedence) (conflicts : List (List ℕ)) (a b : ℕ) : Type 0 where
  pub unordered : IsTrue (is_unordered g conflicts a b)
  pub least : (c d : ℕ) → IsTrue (is_unordered g conflicts c d) → (a < c) ⊎ ((a ≡ c) × (b ≤ d))

-- blocks that are greater than a, and that rise
pub record AreGreater (row : List ℕ) (a count : ℕ) : Type 0 where
  pub known : (i : ℕ) → i < length row → slice_index row i < count
  pub greater : (i : ℕ) → i < length row → a < slice_index row i
  pub rises : (i j : ℕ) → i < j → j < length row → slice_index row i < slice_index row j

-- one list for each block, of greater blocks that rise
pub record AreConflicts (conflicts : List (List ℕ)) (count : ℕ) : Type 0 where
  pub rows : length conflicts ≡ count
  pub rising : (a : ℕ) → a < count → AreGreater (slice_index_or conflicts a []) a count
