-- The columns to which a line may return, as the search for line faults keeps them: innermost first.
use Rattle.std.specs.Prelude.{◌==◌, ℕ, Bool, false, nat_lt, if◌then◌else◌, List, [], ◌∷◌}
use Rattle.pm_syn.specs.Indentation.{is_deeper}
use Rattle.pm_syn.specs.declared.draft.Indentation.{Indentation}
use Rattle.pm_syn.specs.declared.draft.Indentation.TheVariants as indentation

-- the innermost one is greater than this column
abbrev pub is_above : ℕ → List ℕ → Bool
is_above column [] = false
is_above column (nearest ∷ columns) = nat_lt column nearest

-- the innermost one is this column
abbrev pub is_nearest : ℕ → List ℕ → Bool
is_nearest column [] = false
is_nearest column (nearest ∷ columns) = nearest == column

-- those that are left when the greater ones are removed
abbrev pub down_to : ℕ → List ℕ → List ℕ
down_to column [] = []
down_to column (nearest ∷ columns) = if nat_lt column nearest then down_to column columns else nearest ∷ columns

-- those after a line at this column, where it is allowed
abbrev pub after_column : ℕ → List ℕ → List ℕ
after_column column columns = if is_deeper column columns then column ∷ columns else down_to column columns

-- those after a line with this indentation, where it is allowed
abbrev pub after_line : Indentation → List ℕ → List ℕ
after_line (indentation.Blanks column) columns = after_column column columns
after_line indentation.Tabbed columns = columns
