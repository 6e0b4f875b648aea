-- The trees of the last lines, as the program keeps them: with their columns, in the order of the lines.
use Rattle.std.specs.Prelude.{ℕ, Bool, false, nat_lt, List, [], ◌∷◌, if◌then◌else◌, Option, Some, None}
use Rattle.pm_syn.specs.declared.statement.Node.{Node}
use Rattle.pm_syn.specs.declared.statement.Node.TheViews.{roll-Node}
use Rattle.pm_syn.specs.declared.statement.Stmt.{Stmt}
use Rattle.pm_parse.specs.declared.entry.Entry.{Entry}
use Rattle.pm_parse.specs.declared.tree.Tree.{Tree}

-- the first tree is deeper than this column
abbrev pub is_deeper : ℕ → List Tree → Bool
is_deeper column [] = false
is_deeper column (nearest ∷ trees) = nat_lt column nearest.column

-- the nodes of the first trees, up to the first tree that isn't deeper than this column
abbrev pub nodes_under : ℕ → List Tree → List Node
nodes_under column [] = []
nodes_under column (nearest ∷ trees) =
    if nat_lt column nearest.column then nearest.node ∷ nodes_under column trees
    else []

-- the trees without these
abbrev pub left_at : ℕ → List Tree → List Tree
left_at column [] = []
left_at column (nearest ∷ trees) =
    if nat_lt column nearest.column then left_at column trees
    else nearest ∷ trees

-- the tree of a line with this statement and this body
abbrev pub tree_of : Entry → Option Stmt → List Node → Option Tree
tree_of entry None body = None
tree_of entry (Some statement) body =
    Some (record {
      column = entry.column;
      node = roll-Node (record { line = entry.number; stmt = statement; body = body });
    })
