-- How a run begins: the header, the head and the cycles of reset.
use Rattle.std.proofs.Common.{◌≡◌, ◌∙◌, ◌++◌, ℕ, Bool, true, List, [], ◌∷◌, drop, refl, ap, ap₂, sym, subst, append-nil, ◌&&◌}
use Rattle.std.specs.Prelude.{Option, None, Some, if◌then◌else◌}
use Rattle.std.specs.Str.{bytes_eq}
use Rattle.pm_bits.specs.Word.{Word}
use Rattle.pm_design.specs.declared.signal.Signal.{Signal}
use Rattle.pm_io.specs.Known.{Grows, GrowsByFront, Empties}
use Rattle.pm_io.specs.Lines.{Line, lines_of, content}
use Rattle.pm_io.specs.Reading.{ahead}
use Rattle.pm_io.specs.Streams.{Puts}
use Rattle.pm_io.specs.declared.sink.Put.{Put}
use Rattle.pm_io.specs.declared.sink.Put.TheVariants as put
use Rattle.pm_io.proofs.KnownBytes.{grows_on, grows_in_longer, grows_on_by_front}
use Rattle.pm_job.specs.declared.component.Component.{Component}
use Rattle.pm_job.specs.declared.finish.Finish.{Finish}
use Rattle.pm_job.specs.declared.finish.Finish.TheVariants as finish
use Rattle.pm_job.specs.declared.row_reader.HeaderGot.{HeaderGot}
use Rattle.pm_job.specs.declared.row_reader.HeaderGot.TheVariants as header
use Rattle.pm_job.proofs.BlocksAt.{header_of-arranged}
use Rattle.pm_job.specs.Answers.{Outcome, refused_at, with_reset, zeros_of, reset_row}
use Rattle.pm_job.specs.Input.{is_header, is_short, input_widths}
use Rattle.pm_job.specs.Vectors.{header_of}
use Rattle.pm_job.specs.Sound.{widths_of}
use Rattle.pm_job.specs.Trace.{inputs_of, initial_values, head_text, row_text}
use Rattle.pm_job.specs.Values.{value_widths}
use Rattle.pm_job.specs.Progress.{HasNoHeader, arranged, IsReady, IsOpened, Fits, first_values, second_values, opening_text, after, follow, opened, simulated, GivesHeader, Ends, EndsRows, EndsRun}

-- the widths of zeros
widths-zeros : (widths : List ℕ) → value_widths (zeros_of widths) ≡ widths
widths-zeros [] = refl
widths-zeros (width ∷ widths) = ap (λ (ws : List ℕ). width ∷ ws) (widths-zeros widths)

widths-initial : (signals : List Signal) → value_widths (initial_values signals) ≡ widths_of signals
widths-initial [] = refl
widths-initial (signal ∷ signals) = ap (λ (ws : List ℕ). signal.width ∷ ws) (widths-initial signals)

-- the first values and the row of reset fit
pub first_fits : (component : Component) → IsReady component → Fits component (initial_values component.signals) (reset_row component)
first_fits component ready = record {
  each_signal = widths-initial component.signals;
  each_input = ap (λ (ws : List ℕ). 1 ∷ ws) (widths-zeros (input_widths component))
      ∙ (ap (λ (signals : List Signal). 1 ∷ widths_of (inputs_of (drop 1 signals))) ready.begins.1 ∙ ap (λ (signals : List Signal). widths_of (inputs_of signals)) (sym ready.begins.1));
}

-- one piece put after another
pub puts_on : (old mid new : Option (List ℕ)) (first second : List ℕ) (result : Put) → Grows old mid first → Puts mid new second result → Puts old new (first ++ second) result
puts_on old mid new first second put.All one two = grows_on old mid new first second one two
puts_on old mid new first second put.Failed one two = grows_on_by_front old mid new first second one two

-- the head was written, and the first row failed
pub opening_at_first : (component : Component) (values : List Word) (old mid new : Option (List ℕ)) → values ≡ first_values component
    → Grows old mid (head_text component) → GrowsByFront mid new (row_text component 0 values) → GrowsByFront old new (opening_text component)
opening_at_first component values old mid new is head row =
    grows_on_by_front old mid new (head_text component) (row_text component 0 (first_values component) ++ row_text component 1 (second_values component)) head
    (grows_in_longer mid new (row_text component 0 (first_values component)) (row_text component 1 (second_values component))
    (subst (λ (vs : List Word). GrowsByFront mid new (row_text component 0 vs)) is row))

-- the head and the first row were written, and the second row was put
pub opening_at_second : (component : Component) (first second : List Word) (old mid late new : Option (List ℕ)) (result : Put) → first ≡ first_values component → second ≡ second_values component
    → Grows old mid (head_text component) → Grows mid late (row_text component 0 first) → Puts late new (row_text component 1 second) result → Puts old new (opening_text component) result
opening_at_second component first second old mid late new result is also head one two =
    puts_on old mid new (head_text component) (row_text component 0 (first_values component) ++ row_text component 1 (second_values component)) result head
    (puts_on mid late new (row_text component 0 (first_values component)) (row_text component 1 (second_values component)) result
    (subst (λ (vs : List Word). Grows mid late (row_text component 0 vs)) is one)
    (subst (λ (vs : List Word). Puts late new (row_text component 1 vs) result) also two))

-- the cycles of reset have run, and `reset` is 0 now
pub is_opened : (component : Component) (values row row' : List Word) (waiting : List ℕ) → values ≡ second_values component → row ≡ reset_row component
    → Fits component values row → row' ≡ with_reset 0 (drop 1 row) → waiting ≡ [] → IsOpened component values row' waiting
is_opened component values row row' waiting settled reset fits is none = record {
  settled = settled;
  inputs = is ∙ ap (with_reset 0) (sym (ap (drop 1) is));
  fits = record {
    each_signal = fits.each_signal;
    each_input = ap value_widths (is ∙ ap (λ (r : List Word). with_reset 0 (drop 1 r)) reset) ∙ (ap value_widths (sym reset) ∙ fits.each_input);
  };
  none = none;
}

-- an outcome with a text before it
ends_after : (text : List ℕ) (outcome : Outcome) (old mid new : Option (List ℕ)) (answer : Finish) → Grows old mid text → Ends outcome mid new answer → Ends (after text outcome) old new answer
ends_after text outcome old mid new finish.Done grown ends = (ends.0, grows_on old mid new text outcome.output grown ends.1)
ends_after text outcome old mid new (finish.Refused line) grown ends = (ends.0, grows_on old mid new text outcome.output grown ends.1)
ends_after text outcome old mid new finish.ReadFault grown ends = grows_on_by_front old mid new text outcome.output grown ends
ends_after text outcome old mid new finish.WriteFault grown ends = grows_on_by_front old mid new text outcome.output grown ends
ends_after text outcome old mid new finish.NoMemory grown ends = grows_on_by_front old mid new text outcome.output grown ends

-- a run whose first line is the header
simulated-header : (component : Component) (line : Line) (lines : List Line) → is_header component line ≡ true → simulated component (line ∷ lines) ≡ opened component lines
simulated-header component line lines is = ap (λ (b : Bool). if b then opened component lines else refused_at 1) is

-- a run without a line, whose header is empty
simulated-empty : (component : Component) → header_of component ≡ [] → simulated component [] ≡ opened component []
simulated-empty component is = ap (λ (header : List ℕ). if bytes_eq [] header then opened component [] else refused_at 1) is

-- the header was read, and the run was opened and followed
pub ends_opened : (component : Component) (start : List Word) (told now old mid new : Option (List ℕ)) (answer : Finish) → GivesHeader component told now header.Good
    → Grows old mid (opening_text component) → start ≡ second_values component → EndsRows component start now mid new answer → EndsRun component told old new answer
ends_opened component start None now old mid new answer gives grown is ends = tt
ends_opened component start (Some text) None old mid new answer gives grown is ends = absurd (let no : None ≡ Some gives.1 = gives.3 in cc)
ends_opened component start (Some text) (Some n) old mid new answer gives grown is ends =
    let same : n ≡ gives.1 = cc in
    let whole : after (opening_text component) (follow component start 0 (lines_of n)) ≡ simulated component (lines_of text) =
    ap₂ (λ (vs : List Word) (xs : List ℕ). after (opening_text component) (follow component vs 0 (lines_of xs))) is same
    ∙ (sym (simulated-header component gives.0 (lines_of gives.1) gives.4) ∙ ap (simulated component) (sym gives.2)) in
    subst (λ (o : Outcome). Ends o old new answer) whole (ends_after (opening_text component) (follow component start 0 (lines_of n)) old mid new answer grown ends)

-- the header was read, and the opening failed
pub ends_at_opening : (component : Component) (told now old new : Option (List ℕ)) → GivesHeader component told now header.Good
    → GrowsByFront old new (opening_text component) → EndsRun component told old new finish.WriteFault
ends_at_opening component None now old new gives part = tt
ends_at_opening component (Some text) now old new gives part =
    let whole : opened component (lines_of gives.1) ≡ simulated component (lines_of text) =
    sym (simulated-header component gives.0 (lines_of gives.1) gives.4) ∙ ap (simulated component) (sym gives.2) in
    subst (λ (o : Outcome). GrowsByFront old new o.output) whole
    (grows_in_longer old new (opening_text component) (follow component (second_values component) 0 (lines_of gives.1)).output part)

-- there was no line, and the run was opened, or the opening failed
pub ends_empty : (component : Component) (told now old new : Option (List ℕ)) → GivesHeader component told now header.Empty
    → Grows old new (opening_text component) → EndsRun component told old new finish.Done
ends_empty component None now old new gives grown = tt
ends_empty component (Some text) now old new gives grown =
    let whole : opened component [] ≡ simulated component (lines_of text) =
    sym (simulated-empty component gives.2) ∙ ap (λ (xs : List ℕ). simulated component (lines_of xs)) (sym gives.0) in
    subst (λ (o : Outcome). Ends o old new finish.Done) whole (refl, subst (Grows old new) (sym (append-nil (opening_text component))) grown)

pub ends_empty_at_opening : (component : Component) (told now old new : Option (List ℕ)) → GivesHeader component told now header.Empty
    → GrowsByFront old new (opening_text component) → EndsRun component told old new finish.WriteFault
ends_empty_at_opening component None now old new gives part = tt
ends_empty_at_opening component (Some text) now old new gives part =
    let whole : opened component [] ≡ simulated component (lines_of text) =
    sym (simulated-empty component gives.2) ∙ ap (λ (xs : List ℕ). simulated component (lines_of xs)) (sym gives.0) in
    subst (λ (o : Outcome). GrowsByFront old new o.output) whole
    (grows_in_longer old new (opening_text component) (follow component (second_values component) 0 []).output part)

-- where nothing is buffered, what is ahead is what the source has left
pub ahead_nothing : (left : Option (List ℕ)) → ahead [] left ≡ left
ahead_nothing None = refl
ahead_nothing (Some rest) = refl

-- an input without a line was read to its end
pub empty_input : (component : Component) (left left' : Option (List ℕ)) (buffered' : List ℕ) → GivesHeader component left (ahead buffered' left') header.Empty → Empties left left'
empty_input component None left' buffered' gives = tt
empty_input component (Some text) None buffered' gives = absurd (let no : None ≡ Some [] = gives.1 in cc)
empty_input component (Some text) (Some rest) buffered' gives = ap Some (all_of buffered' rest (some_nil (buffered' ++ rest) gives.1)) where
  some_nil : (xs : List ℕ) → ◌≡◌ {A = Option (List ℕ)} (Some xs) (Some []) → xs ≡ []
  some_nil xs is = cc

  all_of : (xs ys : List ℕ) → xs ++ ys ≡ [] → ys ≡ []
  all_of [] ys is = is
  all_of (x ∷ xs) ys is = absurd (cc)

-- the first line isn't the header
pub ends_without_header : (component : Component) (told now held : Option (List ℕ)) → GivesHeader component told now header.Bad → EndsRun component told held held (finish.Refused 1)
ends_without_header component None now held gives = tt
ends_without_header component (Some text) now held gives =
    subst (λ (o : Outcome). Ends o held held (finish.Refused 1)) (sym (refused (lines_of text) gives)) (refl, nothing held) where
      refused : (lines : List Line) → HasNoHeader component lines → simulated component lines ≡ refused_at 1
      refused [] none = ap (λ (b : Bool). if b then opened component [] else refused_at 1) none
      refused (line ∷ lines) none = ap (λ (b : Bool). if b then opened component lines else refused_at 1) none

      nothing : (held : Option (List ℕ)) → Grows held held []
      nothing None = tt
      nothing (Some bytes) = ap Some (sym (append-nil bytes))

-- memory ran out before anything was printed
pub ends_without_memory : (component : Component) (told held : Option (List ℕ)) → EndsRun component told held held finish.NoMemory
ends_without_memory component None held = tt
ends_without_memory component (Some text) None = ([], (simulated component (lines_of text)).output, refl, tt)
ends_without_memory component (Some text) (Some bytes) =
    ([], (simulated component (lines_of text)).output, refl, ap Some (sym (append-nil bytes)))

-- what the first line of the input is hangs on the signals alone
pub header-arranged : (component : Component) (order : List ℕ) (told now : Option (List ℕ)) (got : HeaderGot) → GivesHeader component told now got → GivesHeader (arranged component order) told now got
header-arranged component order None now got gives = tt
header-arranged component order (Some text) now header.Good gives = (
  gives.0,
  gives.1,
  gives.2,
  gives.3,
  ap (λ (names : List ℕ). is_short gives.0 && bytes_eq (content gives.0) names) (header_of-arranged component order) ∙ gives.4,
)
header-arranged component order (Some text) now header.Empty gives = (gives.0, gives.1, header_of-arranged component order ∙ gives.2)
header-arranged component order (Some text) now header.Bad gives = none (lines_of text) gives where
  none : (lines : List Line) → HasNoHeader component lines → HasNoHeader (arranged component order) lines
  none [] is = ap (bytes_eq []) (header_of-arranged component order) ∙ is
  none (line ∷ lines) is = ap (λ (names : List ℕ). is_short line && bytes_eq (content line) names) (header_of-arranged component order) ∙ is
header-arranged component order (Some text) now header.Failed gives = tt
