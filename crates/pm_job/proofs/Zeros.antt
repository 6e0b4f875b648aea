-- Zeros of the widths of signals and of inputs, one signal after another.
use Rattle.std.proofs.Common.{◌≡◌, ◌∙◌, ◌<◌, ◌+◌, ◌++◌, ℕ, true, false, List, [], ◌∷◌, length, drop, get_or, ap, sym, append_assoc, drop-cons, add-one}
use Rattle.std.specs.List.{list_all}
use Rattle.pm_bits.specs.Word.{Word}
use Rattle.pm_design.specs.declared.signal.Signal.{Signal}
use Rattle.pm_job.specs.Sound.{is_width, widths_of}
use Rattle.pm_job.specs.Trace.{initial_values, inputs_of, is_input}
use Rattle.pm_job.specs.Answers.{zeros_of}
use Rattle.pm_job.proofs.RowValues.{inputs_of-input, inputs_of-other}
use Rattle.pm_job.proofs.Widths.{both}

-- the signals from an index on begin with the signal there
from_signal : (signals : List Signal) (index : ℕ) (signal : Signal) → index < length signals → signal ≡ get_or signals index signal
    → drop index signals ≡ signal ∷ drop (index + 1) signals
from_signal signals index signal within is =
    drop-cons signals index signal within ∙ (ap (λ (n : ℕ). get_or signals index signal ∷ drop n signals) (sym (add-one index))
    ∙ ap (λ (s : Signal). s ∷ drop (index + 1) signals) (sym is))

-- if each signal from an index on has a width, the signal there has one, and each later signal
pub wide_from : (signals : List Signal) (index : ℕ) (signal : Signal) → index < length signals → signal ≡ get_or signals index signal
    → list_all is_width (widths_of (drop index signals)) ≡ true
    → (is_width signal.width ≡ true) × (list_all is_width (widths_of (drop (index + 1) signals)) ≡ true)
wide_from signals index signal within is wide =
    both (is_width signal.width) (list_all is_width (widths_of (drop (index + 1) signals)))
    (ap (λ (rest : List Signal). list_all is_width (widths_of rest)) (sym (from_signal signals index signal within is)) ∙ wide)

-- the zero of one more signal
pub zeros_more : (signals : List Signal) (index : ℕ) (signal : Signal) (zeros more : List Word) (zero : Word) → index < length signals → signal ≡ get_or signals index signal
    → zero ≡ record { width = signal.width; value = 0 } → more ≡ zeros ++ zero ∷ [] → zeros ++ initial_values (drop index signals) ≡ initial_values signals
    → more ++ initial_values (drop (index + 1) signals) ≡ initial_values signals
zeros_more signals index signal zeros more zero within is zero_is pushed done =
    let rest = initial_values (drop (index + 1) signals) in
    ap (λ (all : List Word). all ++ rest) pushed ∙ (append_assoc zeros (zero ∷ []) rest ∙ (ap (λ (z : Word). zeros ++ z ∷ rest) zero_is
    ∙ (ap (λ (s : List Signal). zeros ++ initial_values s) (sym (from_signal signals index signal within is)) ∙ done)))

-- the signal at an index is an input: its zero comes next
pub resets_input : (signals : List Signal) (index : ℕ) (signal : Signal) (row more whole : List Word) (zero : Word) → index < length signals → signal ≡ get_or signals index signal
    → is_input signal.role ≡ true → zero ≡ record { width = signal.width; value = 0 } → more ≡ row ++ zero ∷ []
    → row ++ zeros_of (widths_of (inputs_of (drop index signals))) ≡ whole → more ++ zeros_of (widths_of (inputs_of (drop (index + 1) signals))) ≡ whole
resets_input signals index signal row more whole zero within is driven zero_is pushed done =
    let rest = zeros_of (widths_of (inputs_of (drop (index + 1) signals))) in
    ap (λ (all : List Word). all ++ rest) pushed ∙ (append_assoc row (zero ∷ []) rest ∙ (ap (λ (z : Word). row ++ z ∷ rest) zero_is
    ∙ (ap (λ (inputs : List Signal). row ++ zeros_of (widths_of inputs)) (sym (inputs_of-input signals index signal within is driven)) ∙ done)))

-- the signal at an index is no input: nothing comes next
pub resets_other : (signals : List Signal) (index : ℕ) (signal : Signal) (row more whole : List Word) → index < length signals → signal ≡ get_or signals index signal
    → is_input signal.role ≡ false → more ≡ row
    → row ++ zeros_of (widths_of (inputs_of (drop index signals))) ≡ whole → more ++ zeros_of (widths_of (inputs_of (drop (index + 1) signals))) ≡ whole
resets_other signals index signal row more whole within is inner same done =
    ap (λ (all : List Word). all ++ zeros_of (widths_of (inputs_of (drop (index + 1) signals)))) same
    ∙ (ap (λ (inputs : List Signal). row ++ zeros_of (widths_of inputs)) (sym (inputs_of-other signals index signal within is inner)) ∙ done)
