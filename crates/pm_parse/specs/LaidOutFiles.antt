-- Which lines make which file, said of the tree: its columns, and what is allowed in it.
use Rattle.std.specs.Prelude.{◌≡◌, ◌↔◌, ◌<◌, ◌≤◌, ℕ, IfSome, List, [], ◌∷◌, ◌++◌, All, Some, Ok}
use Rattle.pm_syn.specs.declared.statement.File.{File}
use Rattle.pm_syn.specs.declared.statement.Node.{Node}
use Rattle.pm_syn.specs.declared.statement.Node.TheViews.{roll-Node}
use Rattle.pm_syn.specs.declared.statement.Stmt.{Stmt}
use Rattle.pm_syn.specs.declared.token.Line.{Line}
use Rattle.pm_grammar.specs.Depths.{depth_of_statement}
use Rattle.pm_parse.specs.Answers.{IsFileAnswer}
use Rattle.pm_parse.specs.Entries.{AreEntries}
use Rattle.pm_parse.specs.LaidOutTrees.{AreLaidOut}
use Rattle.pm_parse.specs.Skipped.{kept}
use Rattle.pm_parse.specs.declared.entry.Entry.{Entry}
use Rattle.pm_parse.specs.declared.body_kind.BodyKind.TheVariants as kind

-- the trees of lines at this column, in their order, each with its body at one greater column
pub data AreAligned : ℕ → List Entry → List Node → Type 0 where
  no_lines : (column : ℕ) → AreAligned column [] []
  line : (entry : Entry) (statement : Stmt) (deeper : ℕ) (under after : List Entry) (body nodes : List Node)
      → entry.statement ≡ Some statement → entry.column < deeper
      → AreAligned deeper under body → AreAligned entry.column after nodes
      → AreAligned entry.column (entry ∷ (under ++ after))
      (roll-Node (record { line = entry.number; stmt = statement; body = body }) ∷ nodes)

-- no expression in the line's statement is more than 64 deep
abbrev pub IsShallow : Entry → Type 0
IsShallow entry = IfSome entry.statement (λ (statement : Stmt). depth_of_statement statement ≤ 64)

-- the file is the tree of these lines, and is laid out well
pub record IsLaidOutFile (lines : List Line) (file : File) : Type 0 where
  -- the statement of each line that isn't skipped
  pub entries : List Entry
  pub said : AreEntries (kept lines) entries
  -- no expression is too deep
  pub shallow : All IsShallow entries
  -- the tree has one node for each line, and begins at column 0
  pub aligned : AreAligned 0 entries file.nodes
  -- each node is allowed where it is
  pub laid_out : AreLaidOut kind.File [] file.nodes

-- lines make a file exactly when the file is their tree and is laid out well
abbrev pub FilesAreLaidOut : Type 0
FilesAreLaidOut = (lines : List Line) (file : File) → IsFileAnswer lines (Ok file) ↔ IsLaidOutFile lines file
