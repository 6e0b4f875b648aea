-- Proof that lines which are cut from a text, spaced in it and indented are its logical lines.
use Rattle.std.proofs.Common.{◌≡◌, ◌≤◌, ℕ, suc, true, false, nat_lt, List, [], ◌∷◌, ◌++◌, map, length, drop, Option, Some, None, refl, inl, inr, sym, ap, subst, ◌∙◌, append_assoc, arith}
use Rattle.std.specs.Prelude.{All}
use Rattle.std.specs.Option.{option_to_list}
use Rattle.std.proofs.lemmas.List.{drop_all}
use Rattle.std.proofs.lemmas.Bool.Decides.{nat_tests}
use Rattle.std.proofs.lemmas.List.Elements.{All-head, All-tail}
use Rattle.pm_syn.specs.Answers.{HasLines}
use Rattle.pm_syn.specs.CutLines.{AreSeparated, IsLineOf}
use Rattle.pm_syn.specs.Faults.{faults_of_lines, length_of, line_faults}
use Rattle.pm_syn.specs.Indentation.{is_column}
use Rattle.pm_syn.specs.IndentedLines.{AreStacked}
use Rattle.pm_syn.specs.Laws.{AreLinesIn, AreLinesOf, LinesAreExactlyThese}
use Rattle.pm_syn.specs.Lexemes.{Lexeme}
use Rattle.pm_syn.specs.LogicalLines.{begun_line, drafts_of, line_from}
use Rattle.pm_syn.specs.Reading.{Reads, Stops, are_closed, brackets_of, sort_before, unclosed}
use Rattle.pm_syn.specs.Spaces.{AreJoined, AreMatched, AreParted, HasSpace, IsSpaced}
use Rattle.pm_syn.specs.declared.draft.Draft.{Draft}
use Rattle.pm_syn.specs.declared.token.Line.{Line}
use Rattle.pm_syn.specs.declared.token.Token.{Token}
use Rattle.pm_syn.proofs.CutFromText.{lines_cut, tokens_of_lines}
use Rattle.pm_syn.proofs.FallingColumns.{AreFalling, stand_after}
use Rattle.pm_syn.proofs.IndentedLines.{lines_indented}
use Rattle.pm_syn.proofs.LineEndsBetween.{lines_spaced}
use Rattle.pm_syn.proofs.NumbersApart.{IsLayoutSort, all_separated}
use Rattle.pm_syn.proofs.PiecesRead.{space_there}
use Rattle.pm_syn.proofs.StackedColumns.{StandsFor, is_column-same, stands_after_column, stands_for_itself}
use Rattle.pm_syn.proofs.OneLineRead.{IsAfterLine, IsBeforeLine, IsLineRead, draft_of, line_read, lines_of_drafts, map_push, separated_drop, tokens_of}

-- ---- all lines

-- the text was read to its end, and these are its logical lines
pub record AreRead (text : List ℕ) (lines : List Line) : Type 0 where
  pub before : List Lexeme
  pub read : Reads text before []
  pub drafts : drafts_of before ≡ map draft_of lines
  pub closed : brackets_of before ≡ []

-- each line and the next are parted
abbrev ArePartedAll : List ℕ → List Line → Type 0
ArePartedAll text lines = (prefix back : List Line) (line next : Line) → lines ≡ prefix ++ line ∷ next ∷ back → AreParted text line.tokens next.tokens

parted_tail : (text : List ℕ) (line : Line) (lines : List Line) → ArePartedAll text (line ∷ lines) → ArePartedAll text lines
parted_tail text line lines parted prefix back one next is = parted (line ∷ prefix) back one next (ap (λ (rest : List Line). line ∷ rest) is)

-- a text that is read to its end
read_to_end : (text : List ℕ) (before : List Lexeme) → Reads text before (drop (length text) text) → Reads text before []
read_to_end text before read = subst (Reads text before) (drop_all (length text) text (omega arith)) read

-- the space before the first token of a line that follows another
next_line : (text : List ℕ) (done : List Line) (line : Line) (taken : List Token) (token first : Token) (count : ℕ)
    → HasSpace text token.end first.start (suc count) → IsAfterLine text done line taken token → IsBeforeLine text (done ++ line ∷ []) first.start
next_line text done line taken token first count space at =
    let step = space_there text at.before token.end first.start (suc count) space at.read in
    let closed : are_closed (brackets_of at.before) ≡ true = ap are_closed at.closed in
    let end = step.ended (omega arith) closed in
    record {
      before = step.now;
      read = step.read;
      ended = end.0
          ∙ ap (λ (drafts : List Draft). drafts ++ option_to_list (begun_line at.before)) at.ended
          ∙ ap (λ (begun : Option Draft). map draft_of done ++ option_to_list begun) at.begun
          ∙ sym (map_push done line);
      begun = end.1;
      closed = step.brackets ∙ at.closed;
      last = elim step.last as (λ _. IsLayoutSort (sort_before step.now)) [
        | inl none ↦
            let wrong : None ≡ Some (draft_of line) = sym end.1 ∙ ap begun_line none.1 ∙ at.begun in
            absurd (cc)
        | inr layout ↦ layout.1
      ];
    }

-- the lines after one that was read
lines_after : (text : List ℕ) (done : List Line) (line : Line) (lines : List Line) → All (IsLineOf text) lines → All (λ next. AreMatched next.tokens) lines
    → All (λ next. AreJoined text next.tokens) lines → ArePartedAll text (line ∷ lines) → AreSeparated (tokens_of lines)
    → IsLineRead text done line (tokens_of lines) → AreRead text (done ++ line ∷ lines)
lines_after text done line [] each matched joined parted separated was =
    let step = space_there text was.at.before was.token.end (length text) was.spaced.0 was.spaced.1 was.at.read in
    record {
      before = step.now;
      read = read_to_end text step.now step.read;
      drafts = step.drafts
          ∙ ap (λ (drafts : List Draft). drafts ++ option_to_list (begun_line was.at.before)) was.at.ended
          ∙ ap (λ (begun : Option Draft). map draft_of done ++ option_to_list begun) was.at.begun
          ∙ sym (map_push done line);
      closed = step.brackets ∙ was.at.closed;
    }
lines_after text done line (next ∷ lines) each matched joined parted separated was =
    let of : IsLineOf text next = All-head (IsLineOf text) next lines each in
    let spaced : IsSpaced text was.token.end (of.first ∷ (of.others ++ tokens_of lines)) =
    subst (λ (tokens : List Token). IsSpaced text was.token.end (tokens ++ tokens_of lines)) of.tokens was.spaced in
    let space = parted [] lines line next refl was.taken of.others was.token of.first was.at.tokens of.tokens in
    let at = next_line text done line was.taken was.token of.first space.0 space.1 was.at in
    let read = line_read text (done ++ line ∷ []) next (tokens_of lines) of (All-head (λ next. AreMatched next.tokens) next lines matched) (
    All-head (λ next. AreJoined text next.tokens) next lines joined) spaced.1 separated at in
    subst (AreRead text) (append_assoc done (line ∷ []) (next ∷ lines)) (
    lines_after text (done ++ line ∷ []) next lines (All-tail (IsLineOf text) next lines each) (
    All-tail (λ next. AreMatched next.tokens) next lines matched) (All-tail (λ next. AreJoined text next.tokens) next lines joined) (
    parted_tail text line (next ∷ lines) parted) (separated_drop next.tokens (tokens_of lines) separated) read)

-- space at the beginning of a text
space_first : (text : List ℕ) (position count : ℕ) → HasSpace text 0 position count → IsBeforeLine text [] position
space_first text position count space =
    let step = space_there text [] 0 position count space Reads.begin in
    let none = step.unbegun refl in
    record {
      before = step.now;
      read = step.read;
      ended = none.0;
      begun = none.1;
      closed = step.brackets;
      last = elim step.last as (λ _. IsLayoutSort (sort_before step.now)) [
        | inl same ↦ inl (ap sort_before same.1)
        | inr layout ↦ layout.1
      ];
    }

pub all_read : (text : List ℕ) (lines : List Line) → AreLinesIn text lines → AreRead text lines
all_read text [] are =
    let filled = are.spaced.filled in
    let at = space_first text (length text) filled.0 filled.1 in
    record {
      before = at.before;
      read = read_to_end text at.before at.read;
      drafts =
          ap (λ (drafts : List Draft). drafts ++ option_to_list (begun_line at.before)) at.ended
          ∙ ap (λ (begun : Option Draft). option_to_list begun) at.begun;
      closed = at.closed;
    }
all_read text (line ∷ lines) are =
    let each = are.cut.each in
    let of : IsLineOf text line = All-head (IsLineOf text) line lines each in
    let spaced : IsSpaced text 0 (of.first ∷ (of.others ++ tokens_of lines)) =
    subst (λ (tokens : List Token). IsSpaced text 0 (tokens ++ tokens_of lines)) of.tokens are.spaced.filled in
    let at = space_first text of.first.start spaced.0.0 spaced.0.1 in
    let read = line_read text [] line (tokens_of lines) of (All-head (λ next. AreMatched next.tokens) line lines are.spaced.matched) (
    All-head (λ next. AreJoined text next.tokens) line lines are.spaced.joined) spaced.1 are.separated at in
    lines_after text [] line lines (All-tail (IsLineOf text) line lines each) (All-tail (λ next. AreMatched next.tokens) line lines are.spaced.matched) (
    All-tail (λ next. AreJoined text next.tokens) line lines are.spaced.joined) are.spaced.parted (
    separated_drop line.tokens (tokens_of lines) are.separated) read

-- ---- no line has a fault

abbrev IsShort : Line → Type 0
IsShort line = length_of line.tokens ≤ 4096

no_faults : (lines : List Line) {stack earlier : List ℕ} {former : ℕ} → StandsFor stack (former ∷ earlier) → AreFalling stack
    → AreStacked stack (map (λ (line : Line). line.column) lines) → All IsShort lines → faults_of_lines (former ∷ earlier) (map draft_of lines) ≡ []
no_faults [] stands falling are short = refl
no_faults (line ∷ lines) {earlier} {former} stands falling are short =
    let after = stand_after falling are in
    let allowed : is_column line.column (former ∷ earlier) ≡ true = sym (is_column-same stands line.column) ∙ after.may in
    let counted : length_of line.tokens ≤ 4096 = All-head IsShort line lines short in
    let fits : nat_lt 4096 (length_of line.tokens) ≡ false = grind (arith, nat_tests) in
    rw (allowed, fits) (no_faults lines (stands_after_column stands line.column after.may) after.falling after.later (All-tail IsShort line lines short))

-- ---- the law

these_lines : (text : List ℕ) (lines : List Line) → AreLinesOf text lines → HasLines text lines
these_lines text lines are =
    let was = all_read text lines are.lines_in in
    record {
      fits = are.lines_in.fits;
      lexemes = was.before;
      read = was.read;
      closed = subst (λ (bad : Option ℕ). Stops was.before [] bad) (ap unclosed was.closed) (Stops.at_end was.before);
      faultless = ap line_faults was.drafts ∙ no_faults lines (stands_for_itself (0 ∷ [])) (refl, tt) are.indented.columns are.indented.short;
      made = sym (lines_of_drafts lines) ∙ ap (λ (drafts : List Draft). map line_from drafts) (sym was.drafts);
    }

lines_these : (text : List ℕ) (lines : List Line) → HasLines text lines → AreLinesOf text lines
lines_these text lines is = record {
  lines_in = record {
    fits = is.fits;
    cut = lines_cut text lines is;
    separated = subst (λ (made : List Line). AreSeparated (tokens_of made)) (sym is.made) (
        subst AreSeparated (sym (tokens_of_lines (drafts_of is.lexemes))) (all_separated text is.lexemes [] is.read));
    spaced = lines_spaced text lines is;
  };
  indented = lines_indented text lines is;
}

pub exactly_these : LinesAreExactlyThese
exactly_these text lines = (lines_these text lines, these_lines text lines)
