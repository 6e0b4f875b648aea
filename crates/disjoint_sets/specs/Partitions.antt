-- Sets of connected numbers, given by their least members, and their numbers.
use Rattle.std.specs.Prelude.{◌≡◌, ◌<◌, ◌≤◌, ℕ, List, ◌++◌, length, get_or}
use Rattle.disjoint_sets.specs.Connected.{Connected, AreBelow}

-- the list has at each number below the count the least that links connect it with
pub record IsPartition (count : ℕ) (links : List (ℕ × ℕ)) (leasts : List ℕ) : Type 0 where
  pub size : length leasts ≡ count
  pub below : AreBelow count links
  pub least : (x : ℕ) → get_or leasts x 0 ≤ x
  pub member : (x : ℕ) → x < count → Connected links x (get_or leasts x 0)
  pub one : (x y : ℕ) → Connected links x y → get_or leasts x 0 ≡ get_or leasts y 0

-- whatever links made the old sets, those and some more make the new ones
pub record Joins (old new : List ℕ) (more : List (ℕ × ℕ)) : Type 0 where
  pub size : length new ≡ length old
  pub sets : (links : List (ℕ × ℕ)) → IsPartition (length old) links old →
      IsPartition (length old) (links ++ more) new

-- no lesser number is connected with it
abbrev pub IsLeast : List (ℕ × ℕ) → ℕ → Type 0
IsLeast links x = (y : ℕ) → Connected links x y → x ≤ y

-- a number for each set, in the order of the least members, and how many sets there are: each lesser number is of a set
pub record IsNumbering (count : ℕ) (links : List (ℕ × ℕ)) (numbers : List ℕ) (sets : ℕ) : Type 0 where
  pub size : length numbers ≡ count
  pub apart : (x y : ℕ) → x < count → y < count → get_or numbers x 0 ≡ get_or numbers y 0 → Connected links x y
  pub one : (x y : ℕ) → x < count → y < count → Connected links x y → get_or numbers x 0 ≡ get_or numbers y 0
  pub order : (x y : ℕ) → y < count → IsLeast links x → IsLeast links y → x < y →
      get_or numbers x 0 < get_or numbers y 0
  pub below : (x : ℕ) → x < count → get_or numbers x 0 < sets
  pub used : (n : ℕ) → n < sets → (x : ℕ) × (x < count) × (get_or numbers x 0 ≡ n)
