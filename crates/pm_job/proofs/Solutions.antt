-- What a run prints is the trace of values that solve the equations.
use Rattle.std.proofs.Common.{◌≡◌, ◌∙◌, ◌<◌, ◌+◌, ◌++◌, ℕ, zero, suc, Bool, true, false, List, [], ◌∷◌, map, length, drop, refl, ap, append_assoc, arith}
use Rattle.std.specs.Prelude.{Option, None, Some, if◌then◌else◌, slice_get, slice_index_or}
use Rattle.std.specs.List.{list_all}
use Rattle.std.specs.Option.{option_map_or}
use Rattle.std.specs.Str.{bytes_eq}
use Rattle.std.proofs.lemmas.List.{length-set, length-map}
use Rattle.pm_bits.specs.Word.{Word}
use Rattle.pm_design.specs.declared.signal.Signal.{Signal}
use Rattle.pm_io.specs.Lines.{Line}
use Rattle.pm_job.specs.declared.component.Component.{Component}
use Rattle.pm_job.specs.declared.component.Assignment.{Assignment}
use Rattle.pm_job.specs.Answers.{Outcome, refused_at, with_reset, reset_row, Simulates}
use Rattle.pm_job.specs.Input.{Vectors, row_in, rows_from, before_rows, vectors_of, is_header}
use Rattle.pm_job.specs.Vectors.{header_of}
use Rattle.pm_job.specs.Settled.{IsSettled}
use Rattle.pm_job.specs.Sound.{assignment_fits, is_width, widths_of, expression_fits}
use Rattle.pm_job.specs.Trace.{IsTrace, is_input, with_inputs, initial_values, row_text, rows_text, head_text}
use Rattle.pm_job.specs.Progress.{IsReady, after_block, after_blocks, next_values, first_values, second_values, opening_text, after, follow, opened, simulated}
use Rattle.pm_job.specs.Reads.{AssignWithin}
use Rattle.pm_job.proofs.Orders.{ordered_settles}
use Rattle.pm_job.proofs.Widths.{both}

-- as many values as before
length-with_inputs : (signals : List Signal) (values row : List Word) → length values ≡ length signals → length (with_inputs signals values row) ≡ length values
length-with_inputs [] values row is = refl
length-with_inputs (signal ∷ signals) [] row is = refl
length-with_inputs (signal ∷ signals) (value ∷ values) row is =
    pick (is_input signal.role) (λ (r : List Word). length-with_inputs signals values r (omega (arith, is))) where
      pick : (driven : Bool) → ((r : List Word) → length (with_inputs signals values r) ≡ length values)
          → length (if driven then slice_index_or row 0 value ∷ with_inputs signals values (drop 1 row) else value ∷ with_inputs signals values row) ≡ length (value ∷ values)
      pick true same = let rest = same (drop 1 row) in omega (arith, rest)
      pick false same = let rest = same row in omega (arith, rest)

length-after_blocks : (blocks : List Assignment) (values : List Word) → length (after_blocks blocks values) ≡ length values
length-after_blocks [] values = refl
length-after_blocks (block ∷ blocks) values = length-after_blocks blocks (after_block block values) ∙ length-set values block.target _

-- a target is one of the signals
target_within : (widths : List ℕ) (index : ℕ) (test : ℕ → Bool) → option_map_or test (slice_get widths index) false ≡ true → index < length widths
target_within [] index test is = absurd (cc)
target_within (width ∷ widths) zero test is = omega arith
target_within (width ∷ widths) (suc index) test is = let rest = target_within widths index test is in omega (arith, rest)

targets_within : (widths : List ℕ) (count : ℕ) (blocks : List Assignment) → length widths ≡ count → list_all (assignment_fits widths) blocks ≡ true → AssignWithin count blocks
targets_within widths count [] same all k d in_range = absurd (omega arith)
targets_within widths count (block ∷ blocks) same all zero d in_range =
    let fits = both (assignment_fits widths block) (list_all (assignment_fits widths) blocks) all in
    let within = target_within widths block.target (λ (w : ℕ). expression_fits widths w block.value) fits.0 in omega (arith, within, same)
targets_within widths count (block ∷ blocks) same all (suc k) d in_range =
    let fits = both (assignment_fits widths block) (list_all (assignment_fits widths) blocks) all in
    targets_within widths count blocks same fits.1 k d (omega (arith, in_range))

-- the values of the next cycle solve its equations
pub next_values-settled : (component : Component) (values row : List Word) → IsReady component → length values ≡ length component.signals
    → IsSettled component.blocks (with_inputs component.signals values row) (next_values component values row)
unfolding next_values
next_values-settled component values row ready is =
    let typed = both (list_all is_width (widths_of component.signals)) (list_all (assignment_fits (widths_of component.signals)) component.blocks) ready.typed in
    let count : length (widths_of component.signals) ≡ length (with_inputs component.signals values row) =
    omega (arith, length-map component.signals (λ (s : Signal). s.width), length-with_inputs component.signals values row is, is) in
    ordered_settles component.blocks (with_inputs component.signals values row) ready.ordered ready.differ
    (targets_within (widths_of component.signals) (length (with_inputs component.signals values row)) component.blocks count typed.1)

pub length-next_values : (component : Component) (values row : List Word) → length values ≡ length component.signals → length (next_values component values row) ≡ length component.signals
unfolding next_values
length-next_values component values row is =
    length-after_blocks component.blocks (with_inputs component.signals values row) ∙ (length-with_inputs component.signals values row is ∙ is)

-- what a run prints from so many rows on is the text of a trace of the rows of its lines
abbrev TracesFrom : Component → List Word → ℕ → Vectors → Outcome → Type 0
TracesFrom component values count vectors outcome = (cycles : List (List Word))
    × IsTrace component values (map (with_reset 0) vectors.rows) cycles
    × (outcome ≡ record { output = rows_text component (count + 2) cycles; refused = vectors.refused })

pub follow_traces : (component : Component) (values : List Word) (count : ℕ) (lines : List Line) → IsReady component → length values ≡ length component.signals
    → TracesFrom component values count (rows_from component count lines) (follow component values count lines)
follow_traces component values count [] ready is = ([], tt, refl)
follow_traces component values count (line ∷ lines) ready is =
    step (row_in component count line) (λ (settled : List Word) (same : length settled ≡ length component.signals). follow_traces component settled (count + 1) lines ready same) where
      step : (row : Option (List Word))
          → ((settled : List Word) → length settled ≡ length component.signals → TracesFrom component settled (count + 1) (rows_from component (count + 1) lines) (follow component settled (count + 1) lines))
          → TracesFrom component values count
          (elim row as (λ _. Vectors) [ None ↦ record { rows = []; refused = Some (count + 2) } | Some inputs ↦ before_rows inputs (rows_from component (count + 1) lines) ])
          (elim row as (λ _. Outcome) [
            | None ↦ refused_at (count + 2)
            | Some inputs ↦ after (row_text component (count + 2) (next_values component values (with_reset 0 inputs))) (follow component (next_values component values (with_reset 0 inputs)) (count + 1) lines)
          ])
      step None more = ([], tt, refl)
      step (Some inputs) more =
          let settled = next_values component values (with_reset 0 inputs) in
          let rest = more settled (length-next_values component values (with_reset 0 inputs) is) in
          let shift : count + 1 + 2 ≡ count + 2 + 1 = omega arith in (
            settled ∷ rest.0,
            (next_values-settled component values (with_reset 0 inputs) ready is, rest.1),
            ap (after (row_text component (count + 2) settled)) rest.2
                ∙ ap (λ (n : ℕ). let o : Outcome = record { output = row_text component (count + 2) settled ++ rows_text component n rest.0; refused = (rows_from component (count + 1) lines).refused } in o) shift,
          )

-- a run after its header prints the trace of the cycles of reset and of the rows
opened_traces : (component : Component) (lines : List Line) → IsReady component → Simulates component (Some (rows_from component 0 lines)) (opened component lines)
opened_traces component lines ready =
    let start : length (initial_values component.signals) ≡ length component.signals = length-map component.signals _ in
    let first = length-next_values component (initial_values component.signals) (reset_row component) start in
    let second = length-next_values component (first_values component) (reset_row component) first in
    let rest = follow_traces component (second_values component) 0 lines ready second in
    let zero_one = row_text component 0 (first_values component) in
    let one = row_text component 1 (second_values component) in (
      first_values component ∷ second_values component ∷ rest.0,
      (
        next_values-settled component (initial_values component.signals) (reset_row component) ready start,
        (next_values-settled component (first_values component) (reset_row component) ready first, rest.1),
      ),
      ap (after (opening_text component)) rest.2
          ∙ ap (λ (text : List ℕ). let o : Outcome = record { output = text; refused = (rows_from component 0 lines).refused } in o)
          (append_assoc (head_text component) (zero_one ++ one) (rows_text component 2 rest.0)
          ∙ ap (λ (text : List ℕ). head_text component ++ text) (append_assoc zero_one one (rows_text component 2 rest.0))),
    )

-- what a run prints is what its input's vectors make it print
pub simulated_traces : (component : Component) (lines : List Line) → IsReady component → Simulates component (vectors_of component lines) (simulated component lines)
simulated_traces component [] ready = pick (bytes_eq [] (header_of component)) where
  pick : (good : Bool) → Simulates component (if good then Some (record { rows = []; refused = None }) else None) (if good then opened component [] else refused_at 1)
  pick true = opened_traces component [] ready
  pick false = refl
simulated_traces component (line ∷ lines) ready = pick (is_header component line) where
  pick : (good : Bool) → Simulates component (if good then Some (rows_from component 0 lines) else None) (if good then opened component lines else refused_at 1)
  pick true = opened_traces component lines ready
  pick false = refl
