-- That the lines of a file have one answer.
use Rattle.std.proofs.Common.{◌≡◌, ◌∙◌, ◌<◌, ◌≤◌, ◌++◌, ℕ, List, [], ◌∷◌, Option, Some, None, All, arith, refl, sym, ap, subst}
use Rattle.std.specs.Prelude.{Result, Ok, Err}
use Rattle.std.proofs.lemmas.List.Elements.{All-head, All-tail}
use Rattle.std.proofs.lemmas.Option.{same_Some}
use Rattle.pm_syn.specs.declared.statement.File.{File}
use Rattle.pm_syn.specs.declared.statement.Node.{Node}
use Rattle.pm_syn.specs.declared.statement.Node.TheViews.{roll-Node}
use Rattle.pm_syn.specs.declared.statement.Stmt.{Stmt}
use Rattle.pm_syn.specs.declared.token.Line.{Line}
use Rattle.pm_syn.specs.declared.token.Token.{Token}
use Rattle.pm_grammar.proofs.OneStatement.{tokens_spell_one_statement}
use Rattle.pm_parse.specs.Answers.{IsAnswerTo}
use Rattle.pm_parse.specs.Entries.{AreEntries, IsEntry, Says}
use Rattle.pm_parse.specs.Laws.{FilesHaveOneAnswer}
use Rattle.pm_parse.specs.Skipped.{kept}
use Rattle.pm_parse.specs.Trees.{AreTrees, Returns}
use Rattle.pm_parse.specs.declared.entry.Entry.{Entry}
use Rattle.pm_parse.specs.declared.fault.ParseFault.{ParseFault}

-- ---- entries

-- the tokens say one thing
one_said : (tokens : List Token) (one other : Option Stmt) → Says tokens one → Says tokens other → one ≡ other
one_said tokens (Some one) (Some other) is too = ap Some (tokens_spell_one_statement tokens one other is too)
one_said tokens (Some one) None is too = absurd (too one is)
one_said tokens None (Some other) is too = absurd (is other too)
one_said tokens None None is too = refl

-- an entry is its number, its column and its statement
same_entry : (one other : Entry) → one.number ≡ other.number → one.column ≡ other.column → one.statement ≡ other.statement → one ≡ other
same_entry one other number column statement =
    ap (λ (n : ℕ). record one { number = n }) number
    ∙ ap (λ (n : ℕ). record one { number = other.number; column = n }) column
    ∙ ap (λ (s : Option Stmt). record other { statement = s }) statement

-- a line has one entry
one_entry : (line : Line) (one other : Entry) → IsEntry line one → IsEntry line other → one ≡ other
one_entry line one other is too = same_entry one other (is.0 ∙ sym too.0) (is.1 ∙ sym too.1) (one_said line.tokens one.statement other.statement is.2 too.2)

-- lines have one list of entries
one_entries : (lines : List Line) (entries others : List Entry) → AreEntries lines entries → AreEntries lines others → entries ≡ others
one_entries [] [] [] are too = refl
one_entries [] [] (other ∷ others) are too = absurd too
one_entries [] (entry ∷ entries) others are too = absurd are
one_entries (line ∷ lines) [] others are too = absurd are
one_entries (line ∷ lines) (entry ∷ entries) [] are too = absurd too
one_entries (line ∷ lines) (entry ∷ entries) (other ∷ others) are too =
    ap (λ (first : Entry). first ∷ entries) (one_entry line entry other are.0 too.0)
    ∙ ap (λ (after : List Entry). other ∷ after) (one_entries lines entries others are.1 too.1)

-- ---- trees

-- the line is deeper than this column
abbrev pub IsDeeper : ℕ → Entry → Type 0
IsDeeper column entry = column < entry.column

-- the first of the trees: its statement, the lines inside it and those after them
record FirstTree (entry : Entry) (entries : List Entry) (nodes : List Node) : Type 0 where
  statement : Stmt
  under : List Entry
  after : List Entry
  body : List Node
  others : List Node
  said : entry.statement ≡ Some statement
  deeper : All (IsDeeper entry.column) under
  returns : Returns entry.column after
  inner : AreTrees under body
  outer : AreTrees after others
  split : entries ≡ under ++ after
  made : nodes ≡ roll-Node (record { line = entry.number; stmt = statement; body = body }) ∷ others

-- trees of some lines have a first one
first_tree : (entry : Entry) (entries : List Entry) (nodes : List Node) → AreTrees (entry ∷ entries) nodes → FirstTree entry entries nodes
first_tree _ _ _ (AreTrees.line entry statement under after body nodes said deeper returns inner outer) =
    record { statement = statement; under = under; after = after; body = body; others = nodes; said = said; deeper = deeper; returns = returns; inner = inner; outer = outer; split = refl; made = refl }

-- no lines have no trees
no_trees : (nodes : List Node) → AreTrees [] nodes → nodes ≡ []
no_trees _ AreTrees.no_lines = refl

-- lines are cut in one way into deeper ones and those after them
one_split : (column : ℕ) (under after others left : List Entry) → All (IsDeeper column) under → Returns column after
    → All (IsDeeper column) others → Returns column left → under ++ after ≡ others ++ left → (under ≡ others) × (after ≡ left)
one_split column [] after [] left deeper returns too also same = (refl, same)
one_split column [] after (other ∷ others) left deeper returns too also same =
    let back : other.column ≤ column = subst (Returns column) same returns in
    let deep : column < other.column = All-head (IsDeeper column) other others too in
    absurd (omega arith)
one_split column (entry ∷ under) after [] left deeper returns too also same =
    let back : entry.column ≤ column = subst (Returns column) (sym same) also in
    let deep : column < entry.column = All-head (IsDeeper column) entry under deeper in
    absurd (omega arith)
one_split column (entry ∷ under) after (other ∷ others) left deeper returns too also same =
    let first : entry ≡ other = cc in
    let inside : under ++ after ≡ others ++ left = cc in
    let rest = one_split column under after others left (All-tail (IsDeeper column) entry under deeper) returns (All-tail (IsDeeper column) other others too) also inside in
    (ap (λ (e : Entry). e ∷ under) first ∙ ap (λ (es : List Entry). other ∷ es) rest.0, rest.1)

-- lines have one list of trees
one_trees : (entries : List Entry) (one other : List Node) → AreTrees entries one → AreTrees entries other → one ≡ other
one_trees _ _ other AreTrees.no_lines too = sym (no_trees other too)
one_trees _ _ other (AreTrees.line entry statement under after body nodes said deeper returns inner outer) too =
    let first = first_tree entry (under ++ after) other too in
    let same = one_split entry.column under after first.under first.after deeper returns first.deeper first.returns first.split in
    let statements : statement ≡ first.statement = same_Some statement first.statement (sym said ∙ first.said) in
    let bodies = one_trees under body first.body inner (subst (λ (es : List Entry). AreTrees es first.body) (sym same.0) first.inner) in
    let others = one_trees after nodes first.others outer (subst (λ (es : List Entry). AreTrees es first.others) (sym same.1) first.outer) in
    ap (λ (s : Stmt). roll-Node (record { line = entry.number; stmt = s; body = body }) ∷ nodes) statements
    ∙ ap (λ (b : List Node). roll-Node (record { line = entry.number; stmt = first.statement; body = b }) ∷ nodes) bodies
    ∙ ap (λ (ns : List Node). roll-Node (record { line = entry.number; stmt = first.statement; body = first.body }) ∷ ns) others
    ∙ sym first.made

-- ---- answers

-- entries have one answer
one_answer_to : (entries : List Entry) (one other : Result File ParseFault) → IsAnswerTo entries one → IsAnswerTo entries other → one ≡ other
one_answer_to entries (Ok file) (Ok other) is too =
    ap Ok (ap (λ (nodes : List Node). record file { nodes = nodes }) (one_trees entries file.nodes other.nodes is.1 too.1))
one_answer_to entries (Ok file) (Err other) is too = let none = is.0 in cc
one_answer_to entries (Err fault) (Ok other) is too = let none = too.0 in cc
one_answer_to entries (Err fault) (Err other) is too = ap Err (same_Some fault other (sym is ∙ too))

-- lines have at most one answer
pub one_answer : FilesHaveOneAnswer
one_answer lines one other is too =
    let entries = one_entries (kept lines) is.0 too.0 is.1 too.1 in
    one_answer_to is.0 one other is.2 (subst (λ (es : List Entry). IsAnswerTo es other) (sym entries) too.2)
