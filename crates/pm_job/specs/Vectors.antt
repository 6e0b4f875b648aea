-- The header and the rows of the vectors that a simulation reads.
use Rattle.std.specs.Prelude.{◌≡◌, ℕ, ◌^◌, List, [], ◌∷◌, length, map, drop, Option, Some, None, option_map, if◌then◌else◌, ◌==◌}
use Rattle.std.specs.Option.{option_and_then}
use Rattle.std.specs.List.{join_with_byte}
use Rattle.pm_bits.specs.Word.{Word}
use Rattle.pm_design.specs.declared.signal.Signal.{Signal}
use Rattle.pm_job.specs.declared.component.Component.{Component}
use Rattle.pm_job.specs.declared.vectors.RowGot.{RowGot}
use Rattle.pm_job.specs.declared.vectors.RowGot.TheVariants as got
use Rattle.pm_job.specs.Trace.{inputs_of}
use Rattle.pm_job.specs.Values.{value_widths}
use Rattle.pm_job.specs.Words.{blank, words_of, number_below}

-- the ports that a line of vectors gives values to: the inputs but `reset`, which is the first signal
abbrev pub vector_ports : Component → List Signal
vector_ports component = inputs_of (drop 1 component.signals)

-- the header line: the names of the inputs with a blank between any two
unfoldable pub header_of : Component → List ℕ
header_of component = join_with_byte blank (map (λ signal. signal.name) (vector_ports component))

-- the entries of a line: its words, and none in an empty line
abbrev pub entries_of : List ℕ → List (List ℕ)
entries_of line = if length line == 0 then [] else words_of line

-- the value of this width that a word writes: a decimal number below 2 to the width
abbrev pub value_of : ℕ → List ℕ → Option Word
value_of width word = option_map (λ number. record { width = width; value = number }) (number_below (2 ^ width) word)

-- the values that words write, one word for each width
unfoldable pub values_of : List ℕ → List (List ℕ) → Option (List Word)
values_of [] [] = Some []
values_of [] (word ∷ words) = None
values_of (width ∷ widths) [] = None
values_of (width ∷ widths) (word ∷ words) =
    option_and_then (λ value. option_map (λ values. value ∷ values) (values_of widths words)) (value_of width word)

-- the values that a line gives to inputs of these widths
unfoldable pub row_of : List ℕ → List ℕ → Option (List Word)
row_of widths line = values_of widths (entries_of line)

-- a line was read into a row: the row has its values, or the line gives none for these widths
abbrev pub ReadsRow : List ℕ → List Word → List Word → RowGot → Type 0
ReadsRow line old new got.Good = row_of (value_widths old) line ≡ Some new
ReadsRow line old new got.Bad = row_of (value_widths old) line ≡ None
