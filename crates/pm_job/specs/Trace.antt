-- The trace of a component: the values of each cycle, and their text.
use Rattle.std.specs.Prelude.{ℕ, zero, suc, ◌+◌, ◌*◌, ◌/◌, ◌%◌, ◌^◌, Bool, true, false, List, [], ◌∷◌, ◌++◌, map, filter, drop, slice_index, slice_index_or, codes, decimal, if◌then◌else◌}
use Rattle.pm_bits.specs.Word.{Word}
use Rattle.pm_design.specs.declared.signal.Role.{Role}
use Rattle.pm_design.specs.declared.signal.Role.TheVariants as role
use Rattle.pm_design.specs.declared.signal.Signal.{Signal}
use Rattle.pm_io.specs.declared.lines.TheConstants.{LF}
use Rattle.pm_job.specs.declared.component.Component.{Component}
use Rattle.pm_job.specs.Settled.{IsSettled}
use Rattle.pm_job.specs.Words.{blank}

-- ---- the values

-- a signal of this role is an input
abbrev pub is_input : Role → Bool
is_input role.Input = true
is_input role.Output = false
is_input role.Inner = false

-- the inputs, in order of declaration
abbrev pub inputs_of : List Signal → List Signal
inputs_of = filter (λ signal. is_input signal.role)

-- the values at the start of a cycle: the inputs have the values of the row, and every other signal its value before
abbrev pub with_inputs : List Signal → List Word → List Word → List Word
with_inputs [] values row = values
with_inputs (signal ∷ signals) [] row = []
with_inputs (signal ∷ signals) (value ∷ values) row =
    if is_input signal.role then slice_index_or row 0 value ∷ with_inputs signals values (drop 1 row)
    else value ∷ with_inputs signals values row

-- the values before the first cycle
abbrev pub initial_values : List Signal → List Word
initial_values = map (λ signal. record { width = signal.width; value = 0 })

-- Each cycle begins with the values of the cycle before and the inputs of its row, and ends with values that solve its equations.
abbrev pub IsTrace : Component → List Word → List (List Word) → List (List Word) → Type 0
IsTrace component before [] [] = Unit {0}
IsTrace component before [] (settled ∷ cycles) = ⊥
IsTrace component before (row ∷ rows) [] = ⊥
IsTrace component before (row ∷ rows) (settled ∷ cycles) =
    IsSettled component.blocks (with_inputs component.signals before row) settled × IsTrace component settled rows cycles

-- ---- the text

-- a signal of this role has a column
abbrev pub is_port : Role → Bool
is_port role.Input = true
is_port role.Output = true
is_port role.Inner = false

-- the given number of low hexadecimal digits of a number, in lower case
abbrev pub hex_digits : ℕ → ℕ → List ℕ
hex_digits zero number = []
hex_digits (suc n) number = slice_index (codes "0123456789abcdef") (number / 2 ^ (4 * n) % 16) ∷ hex_digits n number

-- a value in hexadecimal: a digit for each four bits, rounded up
abbrev pub hex_of : Word → List ℕ
hex_of word = hex_digits ((word.width + 3) / 4) word.value

-- a blank and the name of a port; a wire has no column
abbrev pub port_name : Signal → List ℕ
port_name signal = if is_port signal.role then blank ∷ signal.name else []

-- a blank and the value of a port
abbrev pub port_value : Signal → Word → List ℕ
port_value signal value = if is_port signal.role then blank ∷ hex_of value else []

-- the ports' names, in order of declaration
abbrev pub port_names : List Signal → List ℕ
port_names [] = []
port_names (signal ∷ signals) = port_name signal ++ port_names signals

-- the ports' values, in order of declaration
abbrev pub port_values : List Signal → List Word → List ℕ
port_values [] values = []
port_values (signal ∷ signals) [] = []
port_values (signal ∷ signals) (value ∷ values) = port_value signal value ++ port_values signals values

-- the first line; `reset` is the first port
abbrev pub head_text : Component → List ℕ
head_text component = codes "cycle" ++ port_names component.signals ++ LF ∷ []

-- the line of a cycle
abbrev pub row_text : Component → ℕ → List Word → List ℕ
row_text component cycle values = decimal cycle ++ port_values component.signals values ++ LF ∷ []

-- the lines of the cycles, where the first one has this number
abbrev pub rows_text : Component → ℕ → List (List Word) → List ℕ
rows_text component cycle [] = []
rows_text component cycle (values ∷ cycles) = row_text component cycle values ++ rows_text component (cycle + 1) cycles

-- the text of a trace
abbrev pub trace_text : Component → List (List Word) → List ℕ
trace_text component cycles = head_text component ++ rows_text component 0 cycles
