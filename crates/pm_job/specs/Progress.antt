-- How a run proceeds, step by step. Only the contracts between the parts of the program use these.
use Rattle.std.specs.Prelude.{◌≡◌, ℕ, ◌+◌, ◌^◌, true, List, [], ◌∷◌, ◌++◌, length, drop, Option, None, Some, slice_set, if◌then◌else◌, ◌<◌, All, false}
use Rattle.std.specs.Str.{bytes_eq}
use Rattle.pm_bits.specs.Word.{Word}
use Rattle.pm_design.specs.declared.signal.Signal.{Signal}
use Rattle.pm_io.specs.Known.{Grows, GrowsByFront}
use Rattle.pm_io.specs.Lines.{Line, lines_of}
use Rattle.pm_job.specs.declared.component.Component.{Component}
use Rattle.pm_job.specs.declared.component.Assignment.{Assignment}
use Rattle.pm_job.specs.declared.schedule.Schedule.{Schedule}
use Rattle.pm_job.specs.declared.finish.Finish.{Finish}
use Rattle.pm_job.specs.declared.finish.Finish.TheVariants as finish
use Rattle.pm_job.specs.declared.row_reader.HeaderGot.{HeaderGot}
use Rattle.pm_job.specs.declared.row_reader.HeaderGot.TheVariants as header
use Rattle.pm_job.specs.declared.row_reader.NextRow.{NextRow}
use Rattle.pm_job.specs.declared.row_reader.NextRow.TheVariants as next
use Rattle.pm_job.specs.Form.{reset, targets_differ}
use Rattle.pm_job.specs.Precedence.{blocks_at}
use Rattle.pm_job.specs.Reads.{is_ordered}
use Rattle.pm_job.specs.Settled.{expression_value, value_at}
use Rattle.pm_job.specs.Sound.{is_typed, widths_of}
use Rattle.pm_job.specs.Trace.{inputs_of, with_inputs, initial_values, row_text, head_text}
use Rattle.pm_job.specs.Values.{value_widths}
use Rattle.pm_job.specs.Input.{row_in, line_row, is_header}
use Rattle.pm_job.specs.Vectors.{header_of}
use Rattle.pm_job.specs.Answers.{Outcome, refused_at, with_reset, reset_row}

-- ---- one cycle

-- the values after a block ran on them
abbrev pub after_block : Assignment → List Word → List Word
after_block block values = slice_set values block.target (expression_value (value_at values) block.value)

-- the values after each block ran, in this order
abbrev pub after_blocks : List Assignment → List Word → List Word
after_blocks [] values = values
after_blocks (block ∷ blocks) values = after_blocks blocks (after_block block values)

-- the values at the end of the next cycle, with this row
unfoldable pub next_values : Component → List Word → List Word → List Word
next_values component values row = after_blocks component.blocks (with_inputs component.signals values row)

-- what the reader of the form gives: widths agree, `reset` is the first signal, and no two blocks have the same target
pub record IsRead (component : Component) : Type 0 where
  pub typed : is_typed component ≡ true
  pub begins : (others : List Signal) × (component.signals ≡ reset ∷ others)
  pub differ : targets_differ component.blocks ≡ true

-- a component whose blocks can run in order of writing: widths agree, `reset` is the first signal, no two blocks have
-- the same target, and no block reads what a later one assigns
pub record IsReady (component : Component) : Type 0 where
  pub typed : is_typed component ≡ true
  pub begins : (others : List Signal) × (component.signals ≡ reset ∷ others)
  pub differ : targets_differ component.blocks ≡ true
  pub ordered : is_ordered component.blocks ≡ true

-- the component with its blocks in this order
abbrev pub arranged : Component → List ℕ → Component
arranged component order = record component { blocks = blocks_at component.blocks order }

-- each index is below the count
abbrev pub AreWithin : ℕ → List ℕ → Type 0
AreWithin count = All (λ index. index < count)

-- the component of a schedule, with its blocks in the order of the schedule
abbrev pub scheduled : Schedule → Component
scheduled schedule = arranged schedule.component.now schedule.order.now

-- the blocks of a schedule can run in its order
pub record CanRun (schedule : Schedule) : Type 0 where
  pub indices : AreWithin (length schedule.component.now.blocks) schedule.order.now
  pub ready : IsReady (scheduled schedule)

-- the values and the row of a cycle have the widths of the signals and of the inputs
pub record Fits (component : Component) (values row : List Word) : Type 0 where
  pub each_signal : value_widths values ≡ widths_of component.signals
  pub each_input : value_widths row ≡ widths_of (inputs_of component.signals)

-- ---- the rest of a run

-- the outcome with a text before its output
abbrev pub after : List ℕ → Outcome → Outcome
after text outcome = record { output = text ++ outcome.output; refused = outcome.refused }

-- the rest of a run after `count` rows of the input
abbrev pub follow : Component → List Word → ℕ → List Line → Outcome
follow component values count [] = record { output = []; refused = None }
follow component values count (line ∷ lines) = elim (row_in component count line) as (λ _. Outcome) [
  | None ↦ refused_at (count + 2)
  | Some inputs ↦
      let settled = next_values component values (with_reset 0 inputs) in
      after (row_text component (count + 2) settled) (follow component settled (count + 1) lines)
]

-- the values after the first cycle of reset, and after the second
abbrev pub first_values : Component → List Word
first_values component = next_values component (initial_values component.signals) (reset_row component)

abbrev pub second_values : Component → List Word
second_values component = next_values component (first_values component) (reset_row component)

-- the two cycles of reset have run: the values are theirs, `reset` is 0 in the row, and nothing waits to be written
pub record IsOpened (component : Component) (values row : List Word) (waiting : List ℕ) : Type 0 where
  pub settled : values ≡ second_values component
  pub inputs : row ≡ with_reset 0 (drop 1 row)
  pub fits : Fits component values row
  pub none : waiting ≡ []

-- the first line of the trace, and the lines of the cycles of reset
abbrev pub opening_text : Component → List ℕ
opening_text component =
    head_text component ++ (row_text component 0 (first_values component) ++ row_text component 1 (second_values component))

-- a run of the lines after the header
abbrev pub opened : Component → List Line → Outcome
opened component lines = after (opening_text component) (follow component (second_values component) 0 lines)

-- a run of an input's lines
abbrev pub simulated : Component → List Line → Outcome
simulated component [] = if bytes_eq [] (header_of component) then opened component [] else refused_at 1
simulated component (line ∷ lines) = if is_header component line then opened component lines else refused_at 1

-- the run has come this far: a text was printed, and the rest of the run follows from the lines ahead
abbrev pub GoesOn : Component → List Word → List Word → ℕ → Option (List ℕ) → Option (List ℕ) → Option (List ℕ) → Option (List ℕ) → Type 0
GoesOn component start values count None now old new = Unit {0}
GoesOn component start values count (Some text) now old new =
    (more printed : List ℕ) × (now ≡ Some more) × Grows old new printed
    × (follow component start 0 (lines_of text) ≡ after printed (follow component values count (lines_of more)))

-- ---- what the steps return

-- what was read into the row after `reset`, if the source tells the bytes ahead
abbrev pub GivesRow : List ℕ → Option (List ℕ) → Option (List ℕ) → List Word → NextRow → Type 0
GivesRow widths None now row answer = Unit {0}
GivesRow widths (Some text) now row next.Row =
    (line : Line) × (rest : List ℕ) × (lines_of text ≡ line ∷ lines_of rest) × (now ≡ Some rest) × (line_row widths line ≡ Some (drop 1 row))
GivesRow widths (Some text) now row next.End = (text ≡ []) × (now ≡ Some [])
GivesRow widths (Some text) now row next.Refused = (line : Line) × (rest : List Line) × (lines_of text ≡ line ∷ rest) × (line_row widths line ≡ None)
GivesRow widths (Some text) now row next.Failed = Unit {0}

-- after the greatest number of rows the input is at its end, or the next line is refused
abbrev pub GivesNoRow : Option (List ℕ) → Finish → Type 0
GivesNoRow None answer = Unit {0}
GivesNoRow (Some text) finish.Done = text ≡ []
GivesNoRow (Some text) (finish.Refused number) = (line : Line) × (rest : List Line) × (lines_of text ≡ line ∷ rest) × (number ≡ 2 ^ 20 + 2)
GivesNoRow (Some text) finish.ReadFault = Unit {0}
GivesNoRow (Some text) finish.WriteFault = ⊥
GivesNoRow (Some text) finish.NoMemory = ⊥

-- the first line isn't the header; if there is no line, the header isn't empty
abbrev pub HasNoHeader : Component → List Line → Type 0
HasNoHeader component [] = bytes_eq [] (header_of component) ≡ false
HasNoHeader component (line ∷ lines) = is_header component line ≡ false

-- what the first line of the input is, if the source tells the bytes ahead
abbrev pub GivesHeader : Component → Option (List ℕ) → Option (List ℕ) → HeaderGot → Type 0
GivesHeader component None now answer = Unit {0}
GivesHeader component (Some text) now header.Good =
    (line : Line) × (rest : List ℕ) × (lines_of text ≡ line ∷ lines_of rest) × (now ≡ Some rest) × (is_header component line ≡ true)
GivesHeader component (Some text) now header.Empty = (text ≡ []) × (now ≡ Some []) × (header_of component ≡ [])
GivesHeader component (Some text) now header.Bad = HasNoHeader component (lines_of text)
GivesHeader component (Some text) now header.Failed = Unit {0}

-- a run with this outcome ended like this: its output was printed, or a prefix of it
abbrev pub Ends : Outcome → Option (List ℕ) → Option (List ℕ) → Finish → Type 0
Ends outcome old new finish.Done = (outcome.refused ≡ None) × Grows old new outcome.output
Ends outcome old new (finish.Refused line) = (outcome.refused ≡ Some line) × Grows old new outcome.output
Ends outcome old new finish.ReadFault = GrowsByFront old new outcome.output
Ends outcome old new finish.WriteFault = GrowsByFront old new outcome.output
Ends outcome old new finish.NoMemory = GrowsByFront old new outcome.output

-- if the source tells the bytes ahead, the run of their lines ended like this
abbrev pub EndsTold : (List ℕ → Outcome) → Option (List ℕ) → Option (List ℕ) → Option (List ℕ) → Finish → Type 0
EndsTold outcome_of None old new answer = Unit {0}
EndsTold outcome_of (Some text) old new answer = Ends (outcome_of text) old new answer

-- a run of a component ended like this
abbrev pub EndsRun : Component → Option (List ℕ) → Option (List ℕ) → Option (List ℕ) → Finish → Type 0
EndsRun component ahead = EndsTold (λ text. simulated component (lines_of text)) ahead

-- a run after the cycles of reset ended like this
abbrev pub EndsRows : Component → List Word → Option (List ℕ) → Option (List ℕ) → Option (List ℕ) → Finish → Type 0
EndsRows component start ahead = EndsTold (λ text. follow component start 0 (lines_of text)) ahead
