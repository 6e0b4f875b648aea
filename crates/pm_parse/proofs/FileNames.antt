-- The names in the trees of a file are proper, where the names of its lines are spelled as names.
use Rattle.std.proofs.Common.{◌≡◌, ℕ, List, [], ◌∷◌, ◌++◌, Some, All, subst}
use Rattle.std.proofs.lemmas.List.Elements.{All-cons, All-head, All-nil, All-tail}
use Rattle.pm_syn.specs.declared.statement.Node.{Node, fold-roll-Node}
use Rattle.pm_syn.specs.declared.statement.Node.TheViews.{roll-Node}
use Rattle.pm_syn.specs.declared.statement.Stmt.{Stmt}
use Rattle.pm_syn.specs.declared.token.Line.{Line}
use Rattle.pm_parse.specs.Entries.{AreEntries, IsEntry, Says}
use Rattle.pm_parse.specs.FileNames.{FilesHaveProperNames, HasSpelledNames, Names, names_of, names_of_node, names_of_statement, node_over}
use Rattle.pm_parse.specs.Skipped.{kept}
use Rattle.pm_parse.specs.Trees.{AreTrees}
use Rattle.pm_parse.specs.Trees as trees
use Rattle.pm_parse.specs.declared.entry.Entry.{Entry}
use Rattle.pm_parse.proofs.KeptLines.{all_kept}
use Rattle.pm_parse.proofs.ProperNames.{AreProper, all_rest, all_prefix, both_proper, none_proper, same_proper}
use Rattle.pm_parse.proofs.SpelledStatements.{IsProper, spelled_line}

-- ---- what the lines say

-- the names in what a line says are proper, if it says something
abbrev SaysProper : Entry → Type 0
SaysProper entry = (statement : Stmt) → entry.statement ≡ Some statement → IsProper statement

-- what one line says
entry_proper : (line : Line) (entry : Entry) → IsEntry line entry → HasSpelledNames line → SaysProper entry
entry_proper line entry is spelled statement says = spelled_line line.tokens statement (subst (Says line.tokens) says is.2) spelled

-- what each line says
entries_proper : (lines : List Line) (entries : List Entry) → AreEntries lines entries → All HasSpelledNames lines → All SaysProper entries
entries_proper [] [] are all = All-nil SaysProper
entries_proper [] (entry ∷ entries) are all = absurd are
entries_proper (line ∷ lines) [] are all = absurd are
entries_proper (line ∷ lines) (entry ∷ entries) are all =
    All-cons SaysProper entry entries (entry_proper line entry are.0 (All-head HasSpelledNames line lines all)) (entries_proper lines entries are.1 (All-tail HasSpelledNames line lines all))

-- ---- trees

-- the names in a node
names-node : (line : ℕ) (statement : Stmt) (body : List Node) → names_of_node (roll-Node (record { line = line; stmt = statement; body = body })) ≡ names_of_statement statement ++ names_of body
names-node line statement body = fold-roll-Node Names node_over (record { line = line; stmt = statement; body = body })

-- the names in the trees of some lines
trees_proper : (entries : List Entry) (nodes : List Node) → AreTrees entries nodes → All SaysProper entries → AreProper (names_of nodes)
trees_proper _ _ trees.no_lines all = none_proper
trees_proper _ _ (trees.line entry statement under after body nodes says deeper returns inner others) all =
    let rest = All-tail SaysProper entry (under ++ after) all in
    let first = All-head SaysProper entry (under ++ after) all statement says in
    both_proper _ (names_of nodes)
    (same_proper _ _ (names-node entry.number statement body) (both_proper (names_of_statement statement) (names_of body) first (trees_proper under body inner (all_prefix SaysProper under after rest))))
    (trees_proper after nodes others (all_rest SaysProper under after rest))

-- the names in a file
pub files_have_proper_names : FilesHaveProperNames
files_have_proper_names lines file spelled answer =
    trees_proper answer.0 file.nodes answer.2.1 (entries_proper (kept lines) answer.0 answer.1 (all_kept HasSpelledNames [] lines spelled))
