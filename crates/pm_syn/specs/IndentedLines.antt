-- How logical lines are indented, said with a stack of columns, and how long they are.
use Rattle.std.specs.Prelude.{◌<◌, ◌≤◌, ℕ, IsTrue, List, [], ◌∷◌, ◌++◌, All, map, reverse}
use Rattle.pm_syn.specs.Faults.{length_of}
use Rattle.pm_syn.specs.Indentation.{is_column}
use Rattle.pm_syn.specs.declared.token.Line.{Line}

-- columns, one for each line in order, after a stack that is listed innermost first: a greater one is pushed, and any other is on the stack, from which those above it are popped
pub data AreStacked : List ℕ → List ℕ → Type 0 where
  nothing : (stack : List ℕ) → AreStacked stack []
  pushed : (column nearest : ℕ) (stack columns : List ℕ) → nearest < column → AreStacked (column ∷ nearest ∷ stack) columns → AreStacked (nearest ∷ stack) (column ∷ columns)
  popped : (column : ℕ) (above stack columns : List ℕ) → AreStacked (column ∷ stack) columns → AreStacked (above ++ column ∷ stack) (column ∷ columns)

-- the columns of logical lines are those of a stack that begins with 0, and the tokens of no line, other than strings, have more than 4,096 bytes
pub record AreIndented (lines : List Line) : Type 0 where
  pub columns : AreStacked (0 ∷ []) (map (λ line. line.column) lines)
  pub short : All (λ line. length_of line.tokens ≤ 4096) lines

-- after lines at these columns, the stack allows one more column
abbrev pub Allows : List ℕ → ℕ → Type 0
Allows columns column = AreStacked (0 ∷ []) (columns ++ column ∷ [])

-- the earlier lines allow it, as if a line at column 0 were before them
abbrev pub IsColumnAfter : List ℕ → ℕ → Type 0
IsColumnAfter columns column = IsTrue (is_column column (reverse columns ++ 0 ∷ []))
