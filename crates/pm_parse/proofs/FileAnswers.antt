-- That each list of lines has an answer.
use Rattle.std.proofs.Common.{◌≡◌, ◌∙◌, ◌<◌, ◌≤◌, ◌++◌, ◌+◌, ℕ, suc, zero, IsTrue, List, [], ◌∷◌, All, Option, Some, None, arith, inl, inr, is_some, length, refl, sym, ap, subst}
use Rattle.std.specs.Prelude.{Result, Ok, Err, nat_lt}
use Rattle.std.proofs.lemmas.Bool.{cases_Bool, false≢true}
use Rattle.std.proofs.lemmas.Bool.Decides.{nat_tests}
use Rattle.std.proofs.lemmas.List.{length-append}
use Rattle.std.proofs.lemmas.List.Elements.{All-cons, All-head, All-nil, All-tail}
use Rattle.pm_syn.specs.declared.statement.File.{File}
use Rattle.pm_syn.specs.declared.statement.Node.{Node}
use Rattle.pm_syn.specs.declared.statement.Node.TheViews.{roll-Node}
use Rattle.pm_syn.specs.declared.statement.Stmt.{Stmt}
use Rattle.pm_syn.specs.declared.token.Line.{Line}
use Rattle.pm_syn.specs.declared.token.Token.{Token}
use Rattle.pm_grammar.proofs.DecidedLines.{decide_line}
use Rattle.pm_parse.specs.Answers.{IsAnswerTo}
use Rattle.pm_parse.specs.Entries.{AreEntries, Says}
use Rattle.pm_parse.specs.Faults.{first_fault}
use Rattle.pm_parse.specs.Laws.{EveryListOfLinesHasAnAnswer}
use Rattle.pm_parse.specs.Skipped.{kept}
use Rattle.pm_parse.specs.Trees.{AreTrees, Returns}
use Rattle.pm_parse.specs.declared.entry.Entry.{Entry}
use Rattle.pm_parse.specs.declared.fault.ParseFault.{ParseFault}
use Rattle.pm_parse.proofs.Answers.{faultless}
use Rattle.pm_parse.proofs.OneAnswer.{IsDeeper}
use Rattle.pm_parse.proofs.ProperNames.{all_rest, all_prefix}

-- ---- entries

-- the tokens spell a statement, or none
said : (tokens : List Token) → (statement : Option Stmt) × Says tokens statement
said tokens = elim (decide_line tokens) [ inl found ↦ (Some found.0, found.1) | inr none ↦ (None, λ statement spelled. none (statement, spelled)) ]

-- lines have entries
entries_of : (lines : List Line) → (entries : List Entry) × AreEntries lines entries
entries_of [] = ([], tt)
entries_of (line ∷ lines) =
    let says = said line.tokens in
    let others = entries_of lines in
    (record { number = line.number; column = line.column; statement = says.0 } ∷ others.0, ((refl, refl, says.1), others.1))

-- ---- trees

-- the lines are cut into those that are deeper than the column and the others, the first of which isn't
record CutAt (column : ℕ) (entries : List Entry) : Type 0 where
  under : List Entry
  after : List Entry
  cut : entries ≡ under ++ after
  deeper : All (IsDeeper column) under
  returns : Returns column after

cut_at : (column : ℕ) (entries : List Entry) → CutAt column entries
cut_at column [] = record { under = []; after = []; cut = refl; deeper = All-nil (IsDeeper column); returns = tt }
cut_at column (entry ∷ entries) =
    elim (cases_Bool (nat_lt column entry.column)) [
      | inl deep ↦
          let less : column < entry.column = grind (arith, nat_tests) in
          let rest = cut_at column entries in
          record {
            under = entry ∷ rest.under;
            after = rest.after;
            cut = ap (λ (es : List Entry). entry ∷ es) rest.cut;
            deeper = All-cons (IsDeeper column) entry rest.under less rest.deeper;
            returns = rest.returns;
          }
      | inr flat ↦
          let level : entry.column ≤ column = grind (arith, nat_tests) in
          record { under = []; after = entry ∷ entries; cut = refl; deeper = All-nil (IsDeeper column); returns = level }
    ]

-- the line has a statement
abbrev HasStatement : Entry → Type 0
HasStatement entry = IsTrue (is_some entry.statement)

statement_in : (statement : Option Stmt) → IsTrue (is_some statement) → (one : Stmt) × (statement ≡ Some one)
statement_in None is = absurd (false≢true is)
statement_in (Some one) is = (one, refl)

-- lines with statements have trees: by how many they are
trees_of : (n : ℕ) (entries : List Entry) → length entries < n → All HasStatement entries → (nodes : List Node) × AreTrees entries nodes
trees_of zero entries below all = absurd (omega arith)
trees_of (suc n) [] below all = ([], AreTrees.no_lines)
trees_of (suc n) (entry ∷ entries) below all =
    let statement = statement_in entry.statement (All-head HasStatement entry entries all) in
    let parts = cut_at entry.column entries in
    let count : length entries ≡ length parts.under + length parts.after = ap (λ (es : List Entry). length es) parts.cut ∙ length-append parts.under parts.after in
    let each = subst (All HasStatement) parts.cut (All-tail HasStatement entry entries all) in
    let body = trees_of n parts.under (omega (arith, count, below)) (all_prefix HasStatement parts.under parts.after each) in
    let others = trees_of n parts.after (omega (arith, count, below)) (all_rest HasStatement parts.under parts.after each) in
    let nodes = roll-Node (record { line = entry.number; stmt = statement.0; body = body.0 }) ∷ others.0 in (
      nodes,
      subst (λ (es : List Entry). AreTrees (entry ∷ es) nodes) (sym parts.cut)
          (AreTrees.line entry statement.0 parts.under parts.after body.0 others.0 statement.1 parts.deeper parts.returns body.1 others.1),
    )

-- ---- answers

-- the trees, or the first fault
answer_by : (entries : List Entry) (fault : Option ParseFault) → first_fault entries ≡ fault → (answer : Result File ParseFault) × IsAnswerTo entries answer
answer_by entries None none =
    let trees = trees_of (suc (length entries)) entries (omega arith) (faultless entries none) in
    (Ok (record { nodes = trees.0 }), (none, trees.1))
answer_by entries (Some fault) is = (Err fault, is)

pub every_list_of_lines_has_an_answer : EveryListOfLinesHasAnAnswer
every_list_of_lines_has_an_answer lines =
    let entries = entries_of (kept lines) in
    let answer = answer_by entries.0 (first_fault entries.0) refl in
    (answer.0, (entries.0, entries.1, answer.1))
