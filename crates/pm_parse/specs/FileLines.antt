-- The lines of a file's nodes.
use Rattle.std.specs.Prelude.{◌≡◌, ◌<◌, ℕ, List, ◌∷◌, map, Ok}
use Rattle.std.specs.List.{AllPairs, flat_map}
use Rattle.pm_syn.specs.declared.statement.File.{File}
use Rattle.pm_syn.specs.declared.statement.Node.{Node, Node-F, fold-Node}
use Rattle.pm_syn.specs.declared.token.Line.{Line}
use Rattle.pm_parse.specs.Answers.{IsFileAnswer}
use Rattle.pm_parse.specs.Skipped.{kept}

-- the line number of a node and the line numbers in its body, once each node of the body has its own
abbrev pub numbers_over : Node-F (List ℕ) → List ℕ
numbers_over node = node.line ∷ flat_map (λ (numbers : List ℕ). numbers) node.body

-- the line number of a node and the line numbers in its body
abbrev pub numbers_of_node : Node → List ℕ
numbers_of_node = fold-Node (List ℕ) numbers_over

-- the line numbers of some trees, each node's before its body's
abbrev pub numbers_of : List Node → List ℕ
numbers_of nodes = flat_map numbers_of_node nodes

-- the nodes of a file are the lines that aren't skipped, in their order; if the numbers of the lines ascend, so
-- do theirs
abbrev pub FilesKeepTheOrderOfLines : Type 0
FilesKeepTheOrderOfLines =
    (lines : List Line) (file : File) → IsFileAnswer lines (Ok file)
    → (numbers_of file.nodes ≡ map (λ (line : Line). line.number) (kept lines))
    × (AllPairs (λ (line later : Line). line.number < later.number) lines
    → AllPairs (λ (number later : ℕ). number < later) (numbers_of file.nodes))
