-- A run goes on by one row, and ends.
use Rattle.std.proofs.Common.{◌≡◌, ◌∙◌, ◌<◌, ◌≤◌, ◌+◌, ◌++◌, ℕ, Bool, false, List, [], ◌∷◌, take, drop, ap, sym, subst, append_assoc, append-nil, arith}
use Rattle.std.specs.Prelude.{Option, None, Some, nat_lt, if◌then◌else◌}
use Rattle.std.proofs.lemmas.Bool.{lt-ltb}
use Rattle.std.proofs.lemmas.Bool.Decides.{nat_tests}
use Rattle.pm_bits.specs.Word.{Word}
use Rattle.pm_io.specs.Known.{Grows, GrowsByFront, Empties}
use Rattle.pm_io.specs.Lines.{Line, lines_of}
use Rattle.pm_io.specs.Reading.{ahead}
use Rattle.pm_io.proofs.KnownBytes.{grows_on, grows_in_longer, grows_on_by_front}
use Rattle.pm_job.specs.declared.component.Component.{Component}
use Rattle.pm_job.specs.declared.row_reader.TheConstants.{ROW_LIMIT}
use Rattle.pm_job.specs.declared.finish.Finish.{Finish}
use Rattle.pm_job.specs.declared.finish.Finish.TheVariants as finish
use Rattle.pm_job.specs.declared.row_reader.NextRow.TheVariants as next
use Rattle.pm_job.specs.Answers.{Outcome, refused_at, with_reset}
use Rattle.pm_job.specs.Input.{row_in, line_row, input_widths}
use Rattle.pm_job.specs.Sound.{widths_of}
use Rattle.pm_job.specs.Trace.{inputs_of, row_text}
use Rattle.pm_job.specs.Values.{value_widths}
use Rattle.pm_job.specs.Progress.{IsReady, Fits, next_values, after, follow, GoesOn, GivesRow, GivesNoRow, EndsRows}

-- the row after `reset` has the widths of the other inputs
pub fits-inputs : (component : Component) (values row : List Word) → IsReady component → Fits component values row → value_widths (drop 1 row) ≡ input_widths component
fits-inputs component values row ready fits =
    drop_first row (input_widths component) (fits.each_input ∙ (ap (λ signals. widths_of (inputs_of signals)) ready.begins.1
    ∙ ap (λ signals. 1 ∷ widths_of (inputs_of (drop 1 signals))) (sym ready.begins.1))) where
      drop_first : (row : List Word) (widths : List ℕ) → value_widths row ≡ 1 ∷ widths → value_widths (drop 1 row) ≡ widths
      drop_first [] widths is = absurd (cc)
      drop_first (word ∷ row) widths is = ap (drop 1) is

-- one text after another
pub after_after : (first second : List ℕ) (outcome : Outcome) → after first (after second outcome) ≡ after (first ++ second) outcome
after_after first second outcome =
    ap (λ (text : List ℕ). let o : Outcome = record { output = text; refused = outcome.refused } in o) (sym (append_assoc first second outcome.output))

-- what follows where the next line is a row
follow-row : (component : Component) (values : List Word) (count : ℕ) (line : Line) (lines : List Line) (inputs : List Word) → row_in component count line ≡ Some inputs
    → follow component values count (line ∷ lines)
    ≡ after (row_text component (count + 2) (next_values component values (with_reset 0 inputs))) (follow component (next_values component values (with_reset 0 inputs)) (count + 1) lines)
follow-row component values count line lines inputs is =
    ap (λ (row : Option (List Word)). elim row as (λ _. Outcome) [
      | None ↦ refused_at (count + 2)
      | Some inputs ↦ after (row_text component (count + 2) (next_values component values (with_reset 0 inputs))) (follow component (next_values component values (with_reset 0 inputs)) (count + 1) lines)
    ]) is

-- what follows where the next line is no row
follow-refused : (component : Component) (values : List Word) (count : ℕ) (line : Line) (lines : List Line) → row_in component count line ≡ None
    → follow component values count (line ∷ lines) ≡ refused_at (count + 2)
follow-refused component values count line lines is =
    ap (λ (row : Option (List Word)). elim row as (λ _. Outcome) [
      | None ↦ refused_at (count + 2)
      | Some inputs ↦ after (row_text component (count + 2) (next_values component values (with_reset 0 inputs))) (follow component (next_values component values (with_reset 0 inputs)) (count + 1) lines)
    ]) is

-- what a run prints next where a row was read
record HasNext (component : Component) (values row : List Word) (count : ℕ) (more : List ℕ) (now : Option (List ℕ)) : Type 0 where
  rest : List ℕ
  ahead : now ≡ Some rest
  follows : follow component values count (lines_of more)
      ≡ after (row_text component (count + 2) (next_values component values row)) (follow component (next_values component values row) (count + 1) (lines_of rest))

has_next : (component : Component) (values row : List Word) (widths : List ℕ) (count : ℕ) (more : List ℕ) (now : Option (List ℕ)) → widths ≡ input_widths component → count < ROW_LIMIT
    → row ≡ with_reset 0 (drop 1 row) → GivesRow widths (Some more) now row next.Row → HasNext component values row count more now
has_next component values row widths count more now wide few begins gives =
    let is : row_in component count gives.0 ≡ Some (drop 1 row) =
    ap (λ (b : Bool). if b then line_row (input_widths component) gives.0 else None) (lt-ltb count ROW_LIMIT few)
    ∙ (ap (λ (ws : List ℕ). line_row ws gives.0) (sym wide) ∙ gives.4) in
    record {
      rest = gives.1;
      ahead = gives.3;
      follows = ap (follow component values count) gives.2 ∙ (follow-row component values count gives.0 (lines_of gives.1) (drop 1 row) is
          ∙ ap (λ (r : List Word). after (row_text component (count + 2) (next_values component values r)) (follow component (next_values component values r) (count + 1) (lines_of gives.1))) (sym begins));
    }

-- a row was read and printed
pub goes_on_row : (component : Component) (start values row : List Word) (widths : List ℕ) (count : ℕ) (told mid now old cur new : Option (List ℕ))
    → GoesOn component start values count told mid old cur → widths ≡ input_widths component → count < ROW_LIMIT → row ≡ with_reset 0 (drop 1 row) → GivesRow widths mid now row next.Row
    → Grows cur new (row_text component (count + 2) (next_values component values row))
    → GoesOn component start (next_values component values row) (count + 1) told now old new
goes_on_row component start values row widths count None mid now old cur new goes wide few begins gives grown = tt
goes_on_row component start values row widths count (Some text) None now old cur new goes wide few begins gives grown = absurd (let no : None ≡ Some goes.0 = goes.2 in cc)
goes_on_row component start values row widths count (Some text) (Some m) now old cur new goes wide few begins gives grown =
    let same : m ≡ goes.0 = cc in
    let step = has_next component values row widths count m now wide few begins gives in
    let line = row_text component (count + 2) (next_values component values row) in
    let rest = follow component (next_values component values row) (count + 1) (lines_of step.rest) in (
      step.rest,
      goes.1 ++ line,
      step.ahead,
      grows_on old cur new goes.1 line goes.3 grown,
      goes.4 ∙ (ap (λ (xs : List ℕ). after goes.1 (follow component values count (lines_of xs))) (sym same) ∙ (ap (after goes.1) step.follows ∙ after_after goes.1 line rest)),
    )

-- a row was read, and couldn't be printed whole
pub goes_to_write_fault : (component : Component) (start values row : List Word) (widths : List ℕ) (count : ℕ) (told mid now old cur new : Option (List ℕ))
    → GoesOn component start values count told mid old cur → widths ≡ input_widths component → count < ROW_LIMIT → row ≡ with_reset 0 (drop 1 row) → GivesRow widths mid now row next.Row
    → GrowsByFront cur new (row_text component (count + 2) (next_values component values row))
    → EndsRows component start told old new finish.WriteFault
goes_to_write_fault component start values row widths count None mid now old cur new goes wide few begins gives part = tt
goes_to_write_fault component start values row widths count (Some text) None now old cur new goes wide few begins gives part = absurd (let no : None ≡ Some goes.0 = goes.2 in cc)
goes_to_write_fault component start values row widths count (Some text) (Some m) now old cur new goes wide few begins gives part =
    let same : m ≡ goes.0 = cc in
    let step = has_next component values row widths count m now wide few begins gives in
    let line = row_text component (count + 2) (next_values component values row) in
    let rest = follow component (next_values component values row) (count + 1) (lines_of step.rest) in
    let whole : (follow component start 0 (lines_of text)).output ≡ goes.1 ++ (line ++ rest.output) =
    ap (λ (o : Outcome). o.output) (goes.4 ∙ (ap (λ (xs : List ℕ). after goes.1 (follow component values count (lines_of xs))) (sym same) ∙ ap (after goes.1) step.follows)) in
    subst (GrowsByFront old new) (sym whole) (grows_on_by_front old cur new goes.1 (line ++ rest.output) goes.3 (grows_in_longer cur new line rest.output part))

-- the next line couldn't be read
pub goes_to_read_fault : (component : Component) (start values : List Word) (count : ℕ) (told mid old cur : Option (List ℕ))
    → GoesOn component start values count told mid old cur → EndsRows component start told old cur finish.ReadFault
goes_to_read_fault component start values count None mid old cur goes = tt
goes_to_read_fault component start values count (Some text) mid old cur goes =
    (goes.1, (follow component values count (lines_of goes.0)).output, ap (λ (o : Outcome). o.output) goes.4, goes.3)

-- nothing follows where no bytes are ahead
goes_to_end : (component : Component) (start values : List Word) (count : ℕ) (text m : List ℕ) (old cur : Option (List ℕ))
    → GoesOn component start values count (Some text) (Some m) old cur → m ≡ [] → EndsRows component start (Some text) old cur finish.Done
goes_to_end component start values count text m old cur goes none =
    let same : goes.0 ≡ [] = cc in
    let whole : follow component start 0 (lines_of text) ≡ after goes.1 (record { output = []; refused = None }) =
    goes.4 ∙ ap (λ (xs : List ℕ). after goes.1 (follow component values count (lines_of xs))) same in
    (ap (λ (o : Outcome). o.refused) whole, subst (Grows old cur) (sym (ap (λ (o : Outcome). o.output) whole ∙ append-nil goes.1)) goes.3)

-- no more rows
no_more : (count limit : ℕ) → limit ≤ count → nat_lt count limit ≡ false
no_more count limit full = grind (arith, nat_tests)

-- the last row that there may be was printed
pub goes_past : (component : Component) (start values : List Word) (count : ℕ) (told mid old cur : Option (List ℕ)) (answer : Finish)
    → GoesOn component start values count told mid old cur → count ≡ ROW_LIMIT → GivesNoRow mid answer → EndsRows component start told old cur answer
goes_past component start values count None mid old cur answer goes last past = tt
goes_past component start values count (Some text) None old cur answer goes last past = absurd (let no : None ≡ Some goes.0 = goes.2 in cc)
goes_past component start values count (Some text) (Some m) old cur finish.Done goes last past = goes_to_end component start values count text m old cur goes past
goes_past component start values count (Some text) (Some m) old cur (finish.Refused number) goes last past =
    let same : goes.0 ≡ m = cc in
    let full : ROW_LIMIT ≤ count = omega arith in
    let none : row_in component count past.0 ≡ None = ap (λ (b : Bool). if b then line_row (input_widths component) past.0 else None) (no_more count ROW_LIMIT full) in
    let whole : follow component start 0 (lines_of text) ≡ after goes.1 (refused_at (count + 2)) =
    goes.4 ∙ (ap (λ (xs : List ℕ). after goes.1 (follow component values count (lines_of xs))) same
    ∙ (ap (λ (ls : List Line). after goes.1 (follow component values count ls)) past.2 ∙ ap (after goes.1) (follow-refused component values count past.0 past.1 none))) in (
      ap (λ (o : Outcome). o.refused) whole ∙ ap (λ (n : ℕ). Some (n + 2)) last ∙ ap Some (sym past.3),
      subst (Grows old cur) (sym (ap (λ (o : Outcome). o.output) whole ∙ append-nil goes.1)) goes.3,
    )
goes_past component start values count (Some text) (Some m) old cur finish.ReadFault goes last past = goes_to_read_fault component start values count (Some text) (Some m) old cur goes
goes_past component start values count (Some text) (Some m) old cur finish.WriteFault goes last past = absurd past
goes_past component start values count (Some text) (Some m) old cur finish.NoMemory goes last past = absurd past

-- the input is at its end
pub goes_empty : (component : Component) (start values row : List Word) (widths : List ℕ) (count : ℕ) (buffered buffered' : List ℕ) (left left' mid old cur : Option (List ℕ))
    → GoesOn component start values count (ahead buffered left) mid old cur → GivesRow widths mid (ahead buffered' left') row next.End → Empties left left'
goes_empty component start values row widths count buffered buffered' None left' mid old cur goes gives = tt
goes_empty component start values row widths count buffered buffered' (Some text) left' None old cur goes gives = absurd (let no : None ≡ Some goes.0 = goes.2 in cc)
goes_empty component start values row widths count buffered buffered' (Some text) None (Some m) old cur goes gives = absurd (let no : None ≡ Some [] = gives.1 in cc)
goes_empty component start values row widths count buffered buffered' (Some text) (Some rest) (Some m) old cur goes gives =
    ap Some (all_of buffered' rest (some_nil (buffered' ++ rest) gives.1)) where
      some_nil : (xs : List ℕ) → ◌≡◌ {A = Option (List ℕ)} (Some xs) (Some []) → xs ≡ []
      some_nil xs is = cc

      all_of : (xs ys : List ℕ) → xs ++ ys ≡ [] → ys ≡ []
      all_of [] ys is = is
      all_of (x ∷ xs) ys is = absurd (cc)

-- the row keeps the value of `reset`
pub begins_kept : (old new : List Word) → old ≡ with_reset 0 (drop 1 old) → new ≡ take 1 old ++ drop 1 new → new ≡ with_reset 0 (drop 1 new)
begins_kept old new begins kept = kept ∙ ap (λ (row : List Word). take 1 row ++ drop 1 new) begins
