-- Which earlier lines a line is inside, and which are in the same body. Lists of earlier lines have the last
-- line first.
use Rattle.std.specs.Prelude.{ℕ, nat_lt, List, [], ◌∷◌, if◌then◌else◌}

-- the lines that a line at this column is inside, innermost first: the last earlier line that is less deep, then
-- the last line before that one that is less deep than it, and so on
abbrev pub enclosing : {A : Type 0} → (A → ℕ) → ℕ → List A → List A
enclosing column_of column [] = []
enclosing column_of column (line ∷ before) =
    if nat_lt (column_of line) column then line ∷ enclosing column_of (column_of line) before
    else enclosing column_of column before

-- the earlier lines of its body: the lines at its column, back to the last line that is less deep
abbrev pub siblings : {A : Type 0} → (A → ℕ) → ℕ → List A → List A
siblings column_of column [] = []
siblings column_of column (line ∷ before) =
    if nat_lt column (column_of line) then siblings column_of column before
    else if nat_lt (column_of line) column then []
    else line ∷ siblings column_of column before
