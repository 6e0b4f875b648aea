-- A forest over numbers: each has a parent at most itself, and a root is its own parent.
use Rattle.std.specs.Prelude.{◌≤◌, ℕ, zero, suc, List, length, cond, eqb, get_or, map}
use Rattle.std.specs.List.{range_with_len}

-- no parent is greater
abbrev pub IsForest : List ℕ → Type 0
IsForest parents = (x : ℕ) → get_or parents x 0 ≤ x

-- what so many steps up lead to
unfoldable pub root_to : ℕ → List ℕ → ℕ → ℕ
root_to zero parents x = x
root_to (suc k) parents x = cond (eqb (get_or parents x 0) x) x (root_to k parents (get_or parents x 0))

-- the root above a number, which has no more steps than its value
abbrev pub root : List ℕ → ℕ → ℕ
root parents x = root_to x parents x

-- the root above each number
abbrev pub roots : List ℕ → List ℕ
roots parents = map (root parents) (range_with_len 0 (length parents))
