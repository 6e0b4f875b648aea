-- The tree of a file's lines: each node is a line, and its body holds the lines inside it.
use Rattle.std.specs.Prelude.{◌≡◌, ◌<◌, ◌≤◌, ℕ, List, [], ◌∷◌, ◌++◌, All, Some}
use Rattle.pm_syn.specs.declared.statement.Node.{Node}
use Rattle.pm_syn.specs.declared.statement.Node.TheViews.{roll-Node}
use Rattle.pm_syn.specs.declared.statement.Stmt.{Stmt}
use Rattle.pm_parse.specs.declared.entry.Entry.{Entry}

-- the first of the lines is no deeper than this column
abbrev pub Returns : ℕ → List Entry → Type 0
Returns column [] = Unit {0}
Returns column (entry ∷ entries) = entry.column ≤ column

-- the trees of some lines, in their order
pub data AreTrees : List Entry → List Node → Type 0 where
  no_lines : AreTrees [] []
  line : (entry : Entry) (statement : Stmt) (under after : List Entry) (body nodes : List Node)
      → entry.statement ≡ Some statement
      → All (λ (e : Entry). entry.column < e.column) under
      → Returns entry.column after
      → AreTrees under body → AreTrees after nodes
      → AreTrees (entry ∷ (under ++ after))
      (roll-Node (record { line = entry.number; stmt = statement; body = body }) ∷ nodes)
