-- The values of inputs, put in one after another.
use Rattle.std.proofs.Common.{◌≡◌, ◌∙◌, ◌<◌, ◌+◌, ◌++◌, ℕ, Bool, true, false, List, [], ◌∷◌, length, take, drop, set, get_or, refl, ap, ap₂, sym, append_assoc, drop-cons, add-one, arith, length-drop}
use Rattle.std.specs.Prelude.{slice_index_or, if◌then◌else◌}
use Rattle.std.proofs.lemmas.List.{take_more, take_more_set, drop-set-lt, length-map, get_or-map}
use Rattle.std.proofs.Math.Seq.{map-set_same}
use Rattle.pm_bits.specs.Word.{Word}
use Rattle.pm_design.specs.declared.signal.Signal.{Signal}
use Rattle.pm_job.specs.Sound.{widths_of}
use Rattle.pm_job.specs.Trace.{inputs_of, is_input, with_inputs}
use Rattle.pm_job.specs.Values.{value_widths}

-- one signal is an input, and takes the next value of the row
cons_input : (signal : Signal) (signals : List Signal) (value : Word) (values : List Word) (input : Word) (row : List Word) → is_input signal.role ≡ true
    → with_inputs (signal ∷ signals) (value ∷ values) (input ∷ row) ≡ input ∷ with_inputs signals values row
cons_input signal signals value values input row driven =
    ap (λ (b : Bool). if b then input ∷ with_inputs signals values row else value ∷ with_inputs signals values (input ∷ row)) driven

-- one signal is no input, and keeps its value
cons_other : (signal : Signal) (signals : List Signal) (value : Word) (values row : List Word) → is_input signal.role ≡ false
    → with_inputs (signal ∷ signals) (value ∷ values) row ≡ value ∷ with_inputs signals values row
cons_other signal signals value values row inner =
    ap (λ (b : Bool). if b then slice_index_or row 0 value ∷ with_inputs signals values (drop 1 row) else value ∷ with_inputs signals values row) inner

-- a list from one index on begins with what stands there
from_index : {A : Type 0} → (xs : List A) (index : ℕ) (x : A) → index < length xs → drop index xs ≡ get_or xs index x ∷ drop (index + 1) xs
from_index xs index x within = drop-cons xs index x within ∙ ap (λ (n : ℕ). get_or xs index x ∷ drop n xs) (sym (add-one index))

-- the signal at an index is an input: its value is put there
pub puts_input : (signals : List Signal) (values row : List Word) (index next : ℕ) (signal : Signal) (input : Word) → index < length signals → index < length values → next < length row
    → signal ≡ get_or signals index signal → is_input signal.role ≡ true → input ≡ get_or row next input
    → take (index + 1) (set values index input) ++ with_inputs (drop (index + 1) signals) (drop (index + 1) (set values index input)) (drop (next + 1) row)
    ≡ take index values ++ with_inputs (drop index signals) (drop index values) (drop next row)
puts_input signals values row index next signal input within inside there is driven has =
    let after : index < index + 1 = omega arith in
    let rest = with_inputs (drop (index + 1) signals) (drop (index + 1) values) (drop (next + 1) row) in
    let start = take_more_set values index input inside in
    let back = drop-set-lt (index + 1) values index input after in
    let step : with_inputs (drop index signals) (drop index values) (drop next row) ≡ input ∷ rest =
    ap (λ (ss : List Signal). with_inputs ss (drop index values) (drop next row)) (from_index signals index signal within ∙ ap (λ (s : Signal). s ∷ drop (index + 1) signals) (sym is))
    ∙ (ap₂ (λ (vs ws : List Word). with_inputs (signal ∷ drop (index + 1) signals) vs ws) (from_index values index input inside)
    (from_index row next input there ∙ ap (λ (w : Word). w ∷ drop (next + 1) row) (sym has))
    ∙ cons_input signal (drop (index + 1) signals) (get_or values index input) (drop (index + 1) values) input (drop (next + 1) row) driven) in
    ap₂ (λ (xs ys : List Word). xs ++ with_inputs (drop (index + 1) signals) ys (drop (next + 1) row)) start back
    ∙ (append_assoc (take index values) (input ∷ []) rest ∙ ap (λ (xs : List Word). take index values ++ xs) (sym step))

-- the signal at an index is no input: nothing is put there
pub puts_nothing : (signals : List Signal) (values row : List Word) (index : ℕ) (signal : Signal) (value : Word) → index < length signals → index < length values
    → signal ≡ get_or signals index signal → is_input signal.role ≡ false
    → take (index + 1) values ++ with_inputs (drop (index + 1) signals) (drop (index + 1) values) row ≡ take index values ++ with_inputs (drop index signals) (drop index values) row
puts_nothing signals values row index signal value within inside is inner =
    let here = get_or values index value in
    let rest = with_inputs (drop (index + 1) signals) (drop (index + 1) values) row in
    let step : with_inputs (drop index signals) (drop index values) row ≡ here ∷ rest =
    ap₂ (λ (ss : List Signal) (vs : List Word). with_inputs ss vs row)
    (from_index signals index signal within ∙ ap (λ (s : Signal). s ∷ drop (index + 1) signals) (sym is)) (from_index values index value inside)
    ∙ cons_other signal (drop (index + 1) signals) here (drop (index + 1) values) row inner in
    ap (λ (xs : List Word). xs ++ rest) (take_more values index value inside)
    ∙ (append_assoc (take index values) (here ∷ []) rest ∙ ap (λ (xs : List Word). take index values ++ xs) (sym step))

-- the inputs from an index on, where the signal there is an input, and where it is none
pub inputs_of-input : (signals : List Signal) (index : ℕ) (signal : Signal) → index < length signals → signal ≡ get_or signals index signal → is_input signal.role ≡ true
    → inputs_of (drop index signals) ≡ signal ∷ inputs_of (drop (index + 1) signals)
inputs_of-input signals index signal within is driven =
    ap inputs_of (from_index signals index signal within ∙ ap (λ (s : Signal). s ∷ drop (index + 1) signals) (sym is))
    ∙ ap (λ (b : Bool). if b then signal ∷ inputs_of (drop (index + 1) signals) else inputs_of (drop (index + 1) signals)) driven

pub inputs_of-other : (signals : List Signal) (index : ℕ) (signal : Signal) → index < length signals → signal ≡ get_or signals index signal → is_input signal.role ≡ false
    → inputs_of (drop index signals) ≡ inputs_of (drop (index + 1) signals)
inputs_of-other signals index signal within is inner =
    ap inputs_of (from_index signals index signal within ∙ ap (λ (s : Signal). s ∷ drop (index + 1) signals) (sym is))
    ∙ ap (λ (b : Bool). if b then signal ∷ inputs_of (drop (index + 1) signals) else inputs_of (drop (index + 1) signals)) inner

-- a row whose widths begin with one has a value there, of that width
pub row_has_next : (row : List Word) (next width : ℕ) (widths : List ℕ) → value_widths (drop next row) ≡ width ∷ widths
    → (next < length row) × ((get_or row next (record { width = 1; value = 0 })).width ≡ width) × (value_widths (drop (next + 1) row) ≡ widths)
row_has_next row next width widths is =
    let count : length (value_widths (drop next row)) ≡ length (width ∷ widths) = ap length is in
    let there : next < length row = omega (arith, count, length-map (drop next row) (λ (w : Word). w.width), length-drop next row) in
    let both : (get_or row next (record { width = 1; value = 0 })).width ∷ value_widths (drop (next + 1) row) ≡ width ∷ widths =
    ap value_widths (sym (from_index row next (record { width = 1; value = 0 }) there)) ∙ is in
    (there, ap (λ (ws : List ℕ). get_or ws 0 0) both, ap (λ (ws : List ℕ). drop 1 ws) both)

-- the inputs before an index have their values, and the row from its next value on is for the inputs from there on
pub record IsPutTo (signals : List Signal) (old row : List Word) (index next : ℕ) (values : List Word) : Type 0 where
  pub done : take index values ++ with_inputs (drop index signals) (drop index values) (drop next row) ≡ with_inputs signals old row
  pub rest : value_widths (drop next row) ≡ widths_of (inputs_of (drop index signals))
  pub widths : value_widths values ≡ widths_of signals

-- an input's value was put at the index
pub put_to_input : (signals : List Signal) (old row : List Word) (index next : ℕ) (values : List Word) (signal : Signal) (input : Word) → IsPutTo signals old row index next values
    → index < length signals → signal ≡ get_or signals index signal → is_input signal.role ≡ true → input ≡ get_or row next input
    → IsPutTo signals old row (index + 1) (next + 1) (set values index input)
put_to_input signals old row index next values signal input put within is driven has =
    let inside : index < length values = omega (arith, within, ap length put.widths, length-map values (λ (v : Word). v.width), length-map signals (λ (s : Signal). s.width)) in
    let rest : value_widths (drop next row) ≡ signal.width ∷ widths_of (inputs_of (drop (index + 1) signals)) =
    put.rest ∙ ap widths_of (inputs_of-input signals index signal within is driven) in
    let there = row_has_next row next signal.width (widths_of (inputs_of (drop (index + 1) signals))) rest in
    let here : get_or values index input ≡ get_or values index input = refl in
    let same : input.width ≡ (get_or values index input).width =
    ap (λ (w : Word). w.width) has ∙ (sym (get_or-map (λ (w : Word). w.width) row next input 0 there.0) ∙ (get_or-map (λ (w : Word). w.width) row next (record { width = 1; value = 0 }) 0 there.0
    ∙ (there.1 ∙ (ap (λ (s : Signal). s.width) is ∙ (sym (get_or-map (λ (s : Signal). s.width) signals index signal 0 within)
    ∙ (ap (λ (ws : List ℕ). get_or ws index 0) (sym put.widths) ∙ get_or-map (λ (w : Word). w.width) values index input 0 inside)))))) in
    record {
      done = puts_input signals values row index next signal input within inside there.0 is driven has ∙ put.done;
      rest = there.2;
      widths = map-set_same (λ (w : Word). w.width) values index input input same ∙ put.widths;
    }

-- nothing was put at an index of another signal
pub put_to_other : (signals : List Signal) (old row : List Word) (index next : ℕ) (values : List Word) (signal : Signal) → IsPutTo signals old row index next values
    → index < length signals → signal ≡ get_or signals index signal → is_input signal.role ≡ false → IsPutTo signals old row (index + 1) next values
put_to_other signals old row index next values signal put within is inner =
    let inside : index < length values = omega (arith, within, ap length put.widths, length-map values (λ (v : Word). v.width), length-map signals (λ (s : Signal). s.width)) in
    record {
      done = puts_nothing signals values (drop next row) index signal (record { width = 1; value = 0 }) within inside is inner ∙ put.done;
      rest = put.rest ∙ ap widths_of (inputs_of-other signals index signal within is inner);
      widths = put.widths;
    }
