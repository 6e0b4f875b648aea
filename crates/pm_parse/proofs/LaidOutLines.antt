-- That lines have no fault where their trees are aligned in columns and are allowed where they are.
use Rattle.std.proofs.Common.{◌≡◌, ◌∙◌, ◌<◌, ◌≤◌, ◌++◌, ℕ, Bool, true, false, List, [], ◌∷◌, All, Some, None, append_assoc, append-nil, ap, arith, refl, subst, subst₂, sym}
use Rattle.std.specs.Prelude.{◌||◌, ◌==◌, not, nat_lt}
use Rattle.std.proofs.lemmas.Bool.{or_left, or_right}
use Rattle.std.proofs.lemmas.Bool.Decides.{nat_tests}
use Rattle.std.proofs.lemmas.List.Elements.{All-head, All-tail}
use Rattle.pm_syn.specs.declared.statement.Node.{Node}
use Rattle.pm_syn.specs.declared.statement.Stmt.{Stmt}
use Rattle.pm_syn.specs.declared.statement.Stmt.TheViews.{out-Stmt}
use Rattle.pm_grammar.specs.Depths.{depth_of_statement}
use Rattle.pm_parse.specs.Faults.{fault_after, first_fault}
use Rattle.pm_parse.specs.Forms.{line_of}
use Rattle.pm_parse.specs.LaidOutFiles.{AreAligned, IsShallow}
use Rattle.pm_parse.specs.LaidOutTrees.{AreLaidOut, forms_end_in_decorator, is_none}
use Rattle.pm_parse.specs.Layout.{begins_body, decorates, fits, has_body, is_any, is_decorated}
use Rattle.pm_parse.specs.BodyKinds.{kind_under}
use Rattle.pm_parse.specs.declared.entry.Entry.{Entry}
use Rattle.pm_parse.specs.declared.form.LineForm.{LineForm}
use Rattle.pm_parse.specs.declared.body_kind.BodyKind.TheVariants as kind
use Rattle.pm_parse.proofs.AlignedLines.{aligned_begins, aligned_deeper, aligned_returns, none_aligned}
use Rattle.pm_parse.proofs.BareLines.{has_none_under, no_body_at}
use Rattle.pm_parse.proofs.BodyLines.{left_after}
use Rattle.pm_parse.proofs.FirstNodes.{laid_out_first}
use Rattle.pm_parse.proofs.FittingLines.{FitsBetween, fits_from}
use Rattle.pm_parse.proofs.NodeForms.{IsLeft, forms_beside, forms_of}
use Rattle.pm_parse.proofs.NodeLines.{decorated_lines, follows_lines, none_under_decorator, precedes_lines}
use Rattle.pm_parse.proofs.OneAnswer.{IsDeeper}
use Rattle.pm_parse.proofs.OpenBodies.{lines_above, lines_beside}
use Rattle.pm_parse.proofs.PassedLines.{above_inside, above_next, beside_inside, beside_next, passed_before, passed_before-append}
use Rattle.pm_parse.proofs.ProperNames.{all_rest, all_prefix}

-- a node's line at this column is aligned after these lines, and the decorator that it is allowed after is
-- directly before it
record IsOpen (column : ℕ) (before : List LineForm) (nodes : List Node) : Type 0 where
  aligned : is_none nodes ≡ false → (begins_body column before || is_any (lines_beside column before)) ≡ true
  decorated : (line : LineForm) → line.column ≡ column → forms_end_in_decorator (forms_beside column before) line.form ≡ true → is_decorated before line ≡ true

-- so it is where a file begins
file_open : (nodes : List Node) → IsOpen 0 [] nodes
file_open nodes = record { aligned = λ any. refl; decorated = λ line there is. cc }

-- where a body begins
body_open : (inner : ℕ) (line : LineForm) (before : List LineForm) (body : List Node) → line.column < inner → has_body line.after_colon ≡ not (is_none body) → IsOpen inner (line ∷ before) body
body_open inner line before body below headed =
    let inside : nat_lt line.column inner ≡ true = grind (arith, nat_tests) in
    record {
      aligned = λ any. or_left (begins_body inner (line ∷ before)) _ (rw (inside, headed, any) refl);
      decorated = λ other there is. let none : false ≡ true = subst (λ (beside : List LineForm). forms_end_in_decorator (forms_of beside) other.form ≡ true) (beside_inside inner line before below) is in cc;
    }

-- and after a line and those under it
next_open : (line : LineForm) (before : List LineForm) (under : List Entry) (nodes : List Node) → All (IsDeeper line.column) under → (has_none_under line.form ≡ true → under ≡ [])
    → IsOpen line.column (passed_before under (line ∷ before)) nodes
next_open line before under nodes deeper bare =
    let beside = beside_next line before under deeper in
    record {
      aligned = λ any. or_right (begins_body line.column (passed_before under (line ∷ before))) _ (rw beside refl);
      decorated = λ other there is.
          let decorated : decorates line.form other.form ≡ true = subst (λ (lines : List LineForm). forms_end_in_decorator (forms_of lines) other.form ≡ true) beside is in
          let level : (line.column == other.column) ≡ true = grind (arith, nat_tests) in
          let directly : is_decorated (line ∷ before) other ≡ true = rw level decorated in
          subst (λ (es : List Entry). is_decorated (passed_before es (line ∷ before)) other ≡ true) (sym (bare (none_under_decorator line.form other.form decorated))) directly;
    }

-- what is turned to false holds
turned : (b : Bool) → not b ≡ false → b ≡ true
turned true is = refl
turned false is = cc

-- a line that says this, no deeper than may be, and fits is passed
passed_one : (before : List LineForm) (entry : Entry) (statement : Stmt) (after : List Entry) → entry.statement ≡ Some statement → IsShallow entry
    → fits before (line_of entry.column statement) after ≡ true → fault_after before (entry ∷ after) ≡ fault_after (line_of entry.column statement ∷ before) after
passed_one before entry statement after said shallow fit =
    let within : depth_of_statement statement ≤ 64 = rw said at shallow in
    let level : nat_lt 64 (depth_of_statement statement) ≡ false = grind (arith, nat_tests) in
    rw (said, level, fit) refl

-- the lines of nodes that are allowed where they are are passed without a fault
lines_passed : (column : ℕ) (entries : List Entry) (nodes : List Node) → AreAligned column entries nodes → (before : List LineForm) (rest : List Entry) → All IsShallow entries
    → AreLaidOut (kind_under (lines_above column before)) (forms_beside column before) nodes → IsOpen column before nodes → IsLeft column rest
    → fault_after before (entries ++ rest) ≡ fault_after (passed_before entries before) rest
lines_passed _ _ _ (AreAligned.no_lines column) before rest shallow laid_out open_it left = refl
lines_passed _ _ _ (AreAligned.line entry statement inner under after body nodes said less inside outside) before rest shallow laid_out open_it left =
    let line = line_of entry.column statement in
    let p = kind_under (lines_above entry.column before) in
    let forms = forms_beside entry.column before in
    let first = laid_out_first p forms entry statement body nodes laid_out in
    let deeper = aligned_deeper inner under body inside entry.column less in
    let none_inside : has_body line.after_colon ≡ false → under ≡ [] = λ none. none_aligned inner under body inside (turned (is_none body) (sym first.headed ∙ none)) in
    let bare : has_none_under line.form ≡ true → under ≡ [] = λ is. none_inside (no_body_at (out-Stmt statement) is) in
    let fit : FitsBetween before line (under ++ (after ++ rest)) = record {
      aligned = open_it.aligned refl;
      complete = aligned_begins (has_body line.after_colon) entry.column inner under (after ++ rest) body inside less first.headed;
      allowed = first.allowed;
      filled = first.filled;
      follows = follows_lines line.form (lines_beside entry.column before) first.follows;
      decorated = decorated_lines line.form line before forms (λ is. open_it.decorated line refl is) first.follows;
      precedes = precedes_lines line.column line.form under after rest nodes bare outside left first.precedes;
    } in
    let inner_laid_out : AreLaidOut (kind_under (lines_above inner (line ∷ before))) (forms_beside inner (line ∷ before)) body =
    subst₂ (λ (above beside : List LineForm). AreLaidOut (kind_under above) (forms_of beside) body) (sym (above_inside inner line before less)) (sym (beside_inside inner line before less)) first.inner in
    let now = passed_before under (line ∷ before) in
    let outer_laid_out : AreLaidOut (kind_under (lines_above entry.column now)) (forms_beside entry.column now) nodes =
    subst₂ (λ (above beside : List LineForm). AreLaidOut (kind_under above) (forms_of beside) nodes) (sym (above_next line before under deeper)) (sym (beside_next line before under deeper)) first.outer in
    let others = All-tail IsShallow entry (under ++ after) shallow in
    let one = passed_one before entry statement (under ++ (after ++ rest)) said (All-head IsShallow entry (under ++ after) shallow) (fits_from before line (under ++ (after ++ rest)) fit) in
    let of_body = lines_passed inner under body inside (line ∷ before) (after ++ rest) (all_prefix IsShallow under after others) inner_laid_out (body_open inner line before body less first.headed)
    (left_after entry.column inner after rest less (aligned_returns entry.column after nodes outside) left) in
    let of_others = lines_passed entry.column after nodes outside now rest (all_rest IsShallow under after others) outer_laid_out (next_open line before under nodes deeper bare) left in
    let all : passed_before (entry ∷ (under ++ after)) before ≡ passed_before after now = rw said (passed_before-append under after (line ∷ before)) in
    ap (λ (es : List Entry). fault_after before (entry ∷ es)) (append_assoc under after rest)
    ∙ one ∙ of_body ∙ of_others ∙ ap (λ (lines : List LineForm). fault_after lines rest) (sym all)

-- the lines of a file whose nodes is allowed in it have no fault
pub file_faultless : (entries : List Entry) (nodes : List Node) → All IsShallow entries → AreAligned 0 entries nodes → AreLaidOut kind.File [] nodes → first_fault entries ≡ None
file_faultless entries nodes shallow aligned laid_out =
    ap (fault_after []) (sym (append-nil entries)) ∙ lines_passed 0 entries nodes aligned [] [] shallow laid_out (file_open nodes) tt
