-- The columns that logical lines are allowed.
use Rattle.std.specs.Prelude.{◌==◌, ◌&&◌, ◌||◌, ℕ, Bool, true, false, nat_lt, List, [], ◌∷◌}
use Rattle.pm_syn.specs.declared.draft.Indentation.{Indentation}
use Rattle.pm_syn.specs.declared.draft.Indentation.TheVariants as indentation

-- the last earlier line that is indented no further than this column is at it; earlier columns are listed last first
abbrev pub returns_to : ℕ → List ℕ → Bool
returns_to column [] = false
returns_to column (earlier ∷ columns) = column == earlier || (nat_lt column earlier && returns_to column columns)

-- the column is greater than that of the line before it
abbrev pub is_deeper : ℕ → List ℕ → Bool
is_deeper column [] = true
is_deeper column (earlier ∷ columns) = nat_lt earlier column

-- a line is allowed at a column that is greater than that of the line before it, or to which it returns
abbrev pub is_column : ℕ → List ℕ → Bool
is_column column earlier = is_deeper column earlier || returns_to column earlier

-- a line with this indentation is allowed after lines at these columns
abbrev pub is_allowed : Indentation → List ℕ → Bool
is_allowed (indentation.Blanks column) earlier = is_column column earlier
is_allowed indentation.Tabbed earlier = false

-- the columns with the column of one more line; a line that is indented by a tab has none
abbrev pub columns_with : Indentation → List ℕ → List ℕ
columns_with (indentation.Blanks column) earlier = column ∷ earlier
columns_with indentation.Tabbed earlier = earlier
