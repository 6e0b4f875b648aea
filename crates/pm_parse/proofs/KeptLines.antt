-- The lines that aren't skipped, and what they say, line by line.
use Rattle.std.proofs.Common.{◌≡◌, ◌∙◌, ◌<◌, ◌≤◌, ◌+◌, ℕ, suc, Bool, true, false, if◌then◌else◌, All, List, [], ◌∷◌, ◌++◌, length, drop, get_or, refl, ap, sym, subst, add-one, append_assoc, append-nil, drop-cons}
use Rattle.std.specs.Prelude.{IfSome, Option, Some, None}
use Rattle.std.proofs.lemmas.List.{drop_all}
use Rattle.std.proofs.lemmas.List.Elements.{All-cons, All-head, All-nil, All-tail}
use Rattle.pm_syn.specs.declared.statement.Stmt.{Stmt}
use Rattle.pm_syn.specs.declared.token.Line.{Line}
use Rattle.pm_syn.specs.declared.token.Token.{Token}
use Rattle.pm_grammar.specs.Statements.{SpellsLine}
use Rattle.pm_parse.specs.Entries.{AreEntries, IsEntry, Says}
use Rattle.pm_parse.specs.EnclosingLines.{enclosing_after}
use Rattle.pm_parse.specs.Skipped.{is_skipped, kept, kept_after}
use Rattle.pm_parse.specs.declared.enclosing.EnclosingLine.{EnclosingLine}
use Rattle.pm_parse.specs.declared.entry.Entry.{Entry}

-- ---- what holds of the lines

-- one more line, if it is kept
all_with_line : (P : Line → Type 0) (over : Bool) (line : Line) (lines : List Line) → P line → All P lines → All P (if over then lines else line ∷ lines)
all_with_line P true line lines one all = all
all_with_line P false line lines one all = All-cons P line lines one all

-- what holds of each line holds of those that are kept
pub all_kept : (P : Line → Type 0) (before after : List Line) → All P after → All P (kept_after before after)
all_kept P before [] all = All-nil P
all_kept P before (line ∷ after) all =
    all_with_line P (is_skipped line before) line (kept_after (line ∷ before) after) (All-head P line after all) (all_kept P (line ∷ before) after (All-tail P line after all))

-- ---- what a line says

-- the tokens say what is read of them
says : (tokens : List Token) (read : Option Stmt) → IfSome read (SpellsLine tokens) → ((s : Stmt) → SpellsLine tokens s → read ≡ Some s) → Says tokens read
says tokens (Some statement) found only = found
says tokens None found only = λ statement spelled. let is = only statement spelled in cc

-- what is read of a line makes its entry
pub entry_is : (line : Line) (tokens : List Token) (read : Option Stmt) → tokens ≡ line.tokens → IfSome read (SpellsLine tokens) → ((s : Stmt) → SpellsLine tokens s → read ≡ Some s)
    → IsEntry line (record { number = line.number; column = line.column; statement = read })
entry_is line tokens read same found only = (refl, refl, subst (λ (ts : List Token). Says ts read) same (says tokens read found only))

-- ---- what the lines so far say

-- the entries of the lines before these, and what is kept of those lines: with the entries of these after them
-- they are those of all lines
pub record AreEntriesBefore (lines after : List Line) (headers : List EnclosingLine) (entries : List Entry) : Type 0 where
  pub before : List Line
  pub lines_are : headers ≡ enclosing_after before
  pub go_on : (others : List Entry) → AreEntries (kept_after before after) others → AreEntries (kept lines) (entries ++ others)

-- before the first line there are none
pub none_before : (lines : List Line) → AreEntriesBefore lines lines (enclosing_after []) []
none_before lines = record { before = []; lines_are = refl; go_on = λ others are. are }

-- after the last line they are those of all lines
pub all_before : (lines : List Line) (count : ℕ) (headers : List EnclosingLine) (entries : List Entry) → length lines ≤ count
    → AreEntriesBefore lines (drop count lines) headers entries → AreEntries (kept lines) entries
all_before lines count headers entries done are =
    let last = subst (λ (after : List Line). AreEntriesBefore lines after headers entries) (drop_all count lines done) are in
    subst (AreEntries (kept lines)) (append-nil entries) (last.go_on [] tt)

-- the next line comes first of those after
pub at_next : (lines : List Line) (count : ℕ) (line : Line) (headers : List EnclosingLine) (entries : List Entry) → count < length lines → line ≡ get_or lines count line
    → AreEntriesBefore lines (drop count lines) headers entries → AreEntriesBefore lines (line ∷ drop (count + 1) lines) headers entries
at_next lines count line headers entries within read are =
    let split : drop count lines ≡ line ∷ drop (count + 1) lines = rw add-one (drop-cons lines count line within ∙ ap (λ (first : Line). first ∷ drop (suc count) lines) (sym read)) in
    subst (λ (after : List Line). AreEntriesBefore lines after headers entries) split are

-- the next line, and what is kept once it is read
module _ (lines after : List Line) (line : Line) (headers others : List EnclosingLine) (entries : List Entry)
    (are : AreEntriesBefore lines (line ∷ after) headers entries) (others_are : others ≡ enclosing_after (line ∷ are.before)) where
  -- no entry is added for a line that is skipped
  pub skipped : is_skipped line are.before ≡ true → AreEntriesBefore lines after others entries
  skipped over = record {
    before = line ∷ are.before;
    lines_are = others_are;
    go_on = λ rest rest_are. are.go_on rest (rw over rest_are);
  }

  -- another line's entry is added last
  pub next_entry : (entry : Entry) → is_skipped line are.before ≡ false → IsEntry line entry → AreEntriesBefore lines after others (entries ++ entry ∷ [])
  next_entry entry kept_line is = record {
    before = line ∷ are.before;
    lines_are = others_are;
    go_on = λ rest rest_are. rw append_assoc (are.go_on (entry ∷ rest) (rw kept_line (is, rest_are)));
  }
