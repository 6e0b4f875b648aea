-- Proof that the first of the lines of a text that is misplaced or too long is named.
use Rattle.std.proofs.Common.{◌≡◌, ◌≤◌, ℕ, true, false, nat_lt, List, [], ◌∷◌, ◌++◌, map, Option, Some, None, refl, sym, ap, subst, ◌∙◌, arith}
use Rattle.std.specs.Prelude.{All, reverse, slice_get}
use Rattle.std.proofs.lemmas.Bool.{false_from_ne_true}
use Rattle.std.proofs.lemmas.Bool.Decides.{nat_tests}
use Rattle.std.proofs.lemmas.List.Elements.{All-head, All-tail}
use Rattle.pm_syn.specs.Answers.{HasFault}
use Rattle.pm_syn.specs.Faults.{faults_of_lines, length_of, line_faults}
use Rattle.pm_syn.specs.Indentation.{is_column}
use Rattle.pm_syn.specs.IndentedLines.{AreIndented, AreStacked}
use Rattle.pm_syn.specs.Laws.{AreLinesIn, FirstFaultyLinesAreNamed}
use Rattle.pm_syn.specs.LogicalLines.{drafts_of}
use Rattle.pm_syn.specs.Reading.{Stops, unclosed}
use Rattle.pm_syn.specs.declared.draft.Draft.{Draft}
use Rattle.pm_syn.specs.declared.fault.TextFault.{TextFault}
use Rattle.pm_syn.specs.declared.fault.TextFault.TheVariants as fault
use Rattle.pm_syn.specs.declared.token.Line.{Line}
use Rattle.pm_syn.proofs.Ascending.{ascending, head_first}
use Rattle.pm_syn.proofs.FallingColumns.{AreFalling, columns_of_stack, reverse_cons-append, stand_after}
use Rattle.pm_syn.proofs.LinesRead.{all_read}
use Rattle.pm_syn.proofs.OneLineRead.{draft_of}
use Rattle.pm_syn.proofs.StackedColumns.{StandsFor, is_column-same, stands_after_column, stands_for_itself}

abbrev columns_of : List Line → List ℕ
columns_of lines = map (λ (line : Line). line.column) lines

abbrev IsShort : Line → Type 0
IsShort line = length_of line.tokens ≤ 4096

-- lines that are indented and short have no faults, so that the first is one of the others
faults_after : (prefix rest : List Line) {stack earlier : List ℕ} {former : ℕ} → StandsFor stack (former ∷ earlier) → AreFalling stack
    → AreStacked stack (columns_of prefix) → All IsShort prefix
    → faults_of_lines (former ∷ earlier) (map draft_of (prefix ++ rest)) ≡ faults_of_lines (reverse (columns_of prefix) ++ former ∷ earlier) (map draft_of rest)
faults_after [] rest stands falling are short = refl
faults_after (line ∷ prefix) rest {earlier} {former} stands falling are short =
    let after = stand_after falling are in
    let allowed : is_column line.column (former ∷ earlier) ≡ true = sym (is_column-same stands line.column) ∙ after.may in
    let counted : length_of line.tokens ≤ 4096 = All-head IsShort line prefix short in
    let fits : nat_lt 4096 (length_of line.tokens) ≡ false = grind (arith, nat_tests) in
    rw (allowed, fits) (
    faults_after prefix rest (stands_after_column stands line.column after.may) after.falling after.later (All-tail IsShort line prefix short)
    ∙ ap (λ (columns : List ℕ). faults_of_lines columns (map draft_of rest)) (sym (reverse_cons-append line.column (columns_of prefix) (former ∷ earlier))))

-- the faults of the line and those after it
line_faults_from : (prefix back : List Line) (line : Line) → AreIndented prefix
    → line_faults (map draft_of (prefix ++ line ∷ back)) ≡ faults_of_lines (reverse (columns_of prefix) ++ 0 ∷ []) (draft_of line ∷ map draft_of back)
line_faults_from prefix back line are = faults_after prefix (line ∷ back) (stands_for_itself (0 ∷ [])) (refl, tt) are.columns are.short

-- the first fault of lines that were read to the end of a text
first_named : (text : List ℕ) (lines : List Line) (first : TextFault) → AreLinesIn text lines
    → slice_get (line_faults (map draft_of lines)) 0 ≡ Some first → HasFault text first
first_named text lines first are head =
    let was = all_read text lines are in
    let there : slice_get (line_faults (drafts_of was.before)) 0 ≡ Some first =
    ap (λ (drafts : List Draft). slice_get (line_faults drafts) 0) was.drafts ∙ head in
    record {
      fits = are.fits;
      lexemes = was.before;
      rest = [];
      bad_token = None;
      read = was.read;
      stopped = subst (λ (bad : Option ℕ). Stops was.before [] bad) (ap unclosed was.closed) (Stops.at_end was.before);
      named = head_first (drafts_of was.before) first (ascending text was.before [] was.read) there;
    }

pub faulty_lines : FirstFaultyLinesAreNamed
faulty_lines text prefix back line are indented =
    let columns : List ℕ = columns_of prefix in
    let allowed = columns_of_stack columns line.column indented.columns in
    let all = ap (λ (faults : List TextFault). slice_get faults 0) (line_faults_from prefix back line indented) in (
      λ disallowed. (
          let test : is_column line.column (reverse columns ++ 0 ∷ []) ≡ false =
          false_from_ne_true (is_column line.column (reverse columns ++ 0 ∷ [])) (λ may. disallowed (allowed.0 may)) in
          first_named text (prefix ++ line ∷ back) (fault.BadIndent line.number) are (all ∙ rw test refl)
          ),
      λ may long. (
          let test : is_column line.column (reverse columns ++ 0 ∷ []) ≡ true = allowed.1 may in
          let more : nat_lt 4096 (length_of line.tokens) ≡ true = grind (arith, nat_tests) in
          first_named text (prefix ++ line ∷ back) (fault.LineTooLong line.number) are (all ∙ rw (test, more) refl)
          ),
    )
