-- That the nodes of a file are its lines in their order, except the lines that are skipped.
use Rattle.std.proofs.Common.{◌≡◌, ◌∙◌, ◌<◌, ℕ, List, [], ◌∷◌, ◌++◌, All, AllPairs, arith, map, refl, sym, ap, ap₂, subst, suc}
use Rattle.std.specs.Prelude.{Ok}
use Rattle.std.proofs.lemmas.Bool.{cond_both}
use Rattle.std.proofs.lemmas.List.{map-append}
use Rattle.std.proofs.lemmas.List.Elements.{All-map}
use Rattle.std.proofs.lemmas.List.Folds.{flat_map-map}
use Rattle.std.proofs.lemmas.List.Kept.{AllPairs-cons}
use Rattle.pm_syn.specs.declared.statement.File.{File}
use Rattle.pm_syn.specs.declared.statement.Node.{Node, fold-roll-Node}
use Rattle.pm_syn.specs.declared.statement.Node.TheViews.{roll-Node}
use Rattle.pm_syn.specs.declared.statement.Stmt.{Stmt}
use Rattle.pm_syn.specs.declared.token.Line.{Line}
use Rattle.pm_parse.specs.Answers.{IsFileAnswer}
use Rattle.pm_parse.specs.Entries.{AreEntries}
use Rattle.pm_parse.specs.FileLines.{FilesKeepTheOrderOfLines, numbers_of, numbers_of_node, numbers_over}
use Rattle.pm_parse.specs.Skipped.{is_skipped, kept, kept_after}
use Rattle.pm_parse.specs.Trees.{AreTrees}
use Rattle.pm_parse.specs.declared.entry.Entry.{Entry}
use Rattle.pm_parse.proofs.KeptLines.{all_kept}

-- ---- the numbers of trees

-- the number of a line
abbrev number_of : Line → ℕ
number_of line = line.number

-- the number of an entry
abbrev number_of_entry : Entry → ℕ
number_of_entry entry = entry.number

-- the number of a node comes before those of its body
numbers_of-node : (number : ℕ) (statement : Stmt) (body : List Node) → numbers_of_node (roll-Node (record { line = number; stmt = statement; body = body })) ≡ number ∷ numbers_of body
numbers_of-node number statement body =
    fold-roll-Node (List ℕ) numbers_over (record { line = number; stmt = statement; body = body })
    ∙ ap (λ (numbers : List ℕ). number ∷ numbers) (flat_map-map (λ (numbers : List ℕ). numbers) numbers_of_node body)

-- the numbers of trees are those of their lines
numbers_of_trees : (entries : List Entry) (nodes : List Node) → AreTrees entries nodes → numbers_of nodes ≡ map number_of_entry entries
numbers_of_trees _ _ AreTrees.no_lines = refl
numbers_of_trees _ _ (AreTrees.line entry statement under after body nodes says deeper returns inner outer) =
    let first = numbers_of-node entry.number statement body ∙ ap (λ (numbers : List ℕ). entry.number ∷ numbers) (numbers_of_trees under body inner) in
    ap₂ (λ (numbers others : List ℕ). numbers ++ others) first (numbers_of_trees after nodes outer)
    ∙ ap (λ (numbers : List ℕ). entry.number ∷ numbers) (sym (map-append number_of_entry under after))

-- entries have the numbers of their lines
numbers_of_entries : (lines : List Line) (entries : List Entry) → AreEntries lines entries → map number_of_entry entries ≡ map number_of lines
numbers_of_entries [] [] are = refl
numbers_of_entries [] (entry ∷ entries) are = absurd are
numbers_of_entries (line ∷ lines) [] are = absurd are
numbers_of_entries (line ∷ lines) (entry ∷ entries) are = ap₂ (λ (number : ℕ) (numbers : List ℕ). number ∷ numbers) are.0.0 (numbers_of_entries lines entries are.1)

-- ---- the order of the lines that are kept

-- the numbers ascend
abbrev Ascend : List ℕ → Type 0
Ascend numbers = AllPairs (λ (number later : ℕ). number < later) numbers

-- the numbers of the lines ascend
abbrev LinesAscend : List Line → Type 0
LinesAscend lines = AllPairs (λ (line later : Line). line.number < later.number) lines

-- the line is after this number
abbrev IsBehind : ℕ → Line → Type 0
IsBehind number line = number < line.number

-- after the first line are the others
lines_after : (line : Line) (lines : List Line) → LinesAscend (line ∷ lines) → All (IsBehind line.number) lines
lines_after line lines ascend k other within = ascend 0 (suc k) other (omega arith) (omega (arith, within))

-- the other lines ascend
lines_ascend : (line : Line) (lines : List Line) → LinesAscend (line ∷ lines) → LinesAscend lines
lines_ascend line lines ascend i j other less within = ascend (suc i) (suc j) other (omega (arith, less)) (omega (arith, within))

-- of lines that ascend the numbers of those that are kept ascend
kept_ascend : (before lines : List Line) → LinesAscend lines → Ascend (map number_of (kept_after before lines))
kept_ascend before [] ascend = λ i j d less within. absurd (omega (arith, within))
kept_ascend before (line ∷ lines) ascend =
    let others = kept_ascend (line ∷ before) lines (lines_ascend line lines ascend) in
    let after = all_kept (IsBehind line.number) (line ∷ before) lines (lines_after line lines ascend) in
    cond_both (is_skipped line before) (kept_after (line ∷ before) lines) (line ∷ kept_after (line ∷ before) lines) (λ (left : List Line). Ascend (map number_of left)) (λ _. others) (
    λ _. AllPairs-cons (λ (number later : ℕ). number < later) line.number (map number_of (kept_after (line ∷ before) lines)) (
    All-map (λ (later : ℕ). line.number < later) number_of (kept_after (line ∷ before) lines) after) others)

-- ---- the law

-- the nodes of a file are the lines that are kept
numbers_of_file : (lines : List Line) (file : File) → IsFileAnswer lines (Ok file) → numbers_of file.nodes ≡ map number_of (kept lines)
numbers_of_file lines file answer = numbers_of_trees answer.0 file.nodes answer.2.1 ∙ numbers_of_entries (kept lines) answer.0 answer.1

-- the nodes of a file keep the order of its lines
pub files_keep_the_order_of_lines : FilesKeepTheOrderOfLines
files_keep_the_order_of_lines lines file answer =
    let numbers = numbers_of_file lines file answer in
    (numbers, λ ascend. subst Ascend (sym numbers) (kept_ascend [] lines ascend))
