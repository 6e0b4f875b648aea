-- The rows of vectors.
use Rattle.std.specs.Prelude.{◌≡◌, ℕ, ◌&&◌, Bool, true, false, List, [], ◌∷◌, slice_get, slice_set, Option, Some, None, is_some, option_map}
use Rattle.std.specs.Option.{option_and_then}
use Rattle.pm_bits.specs.Word.{Word}
use Rattle.pm_trace.specs.Values.{value_of}
use Rattle.pm_trace.specs.Words.{words_of}
use Rattle.pm_trace.specs.declared.row.RowGot.{RowGot}
use Rattle.pm_trace.specs.declared.row.RowGot.TheVariants as got

-- the value that a word gives to an input of the row, by the width of the value that it has
unfoldable pub value_at : List Word → ℕ → List ℕ → Option Word
value_at row input word = option_and_then (λ old. value_of old.width word) (slice_get row input)

-- the values that words give to inputs of the row, one word for each
unfoldable pub values_at : List Word → List ℕ → List (List ℕ) → Option (List Word)
values_at row [] [] = Some []
values_at row [] (word ∷ words) = None
values_at row (input ∷ inputs) [] = None
values_at row (input ∷ inputs) (word ∷ words) =
    option_and_then (λ value. option_map (λ values. value ∷ values) (values_at row inputs words))
    (value_at row input word)

-- the values that a line gives to the inputs of a header, if it is a row
unfoldable pub row_of : List ℕ → List Word → List ℕ → Option (List Word)
row_of inputs row line = values_at row inputs (words_of line)

-- the row in which the inputs have the values
abbrev pub with_values : List ℕ → List Word → List Word → List Word
with_values [] values row = row
with_values (input ∷ inputs) [] row = row
with_values (input ∷ inputs) (value ∷ values) row = with_values inputs values (slice_set row input value)

-- the line is a row, whose values are put in; or it is none, and nothing has changed
abbrev pub ReadsRow : List ℕ → List ℕ → List Word → List Word → RowGot → Type 0
ReadsRow inputs line old new got.Good =
    (values : List Word) × (row_of inputs old line ≡ Some values) × (new ≡ with_values inputs values old)
ReadsRow inputs line old new got.Bad = (row_of inputs old line ≡ None) × (new ≡ old)

-- ---- what the functions of one pass return

-- whether the words give values to the inputs
abbrev pub give_values : List Word → List ℕ → List (List ℕ) → Bool
give_values row [] [] = true
give_values row [] (word ∷ words) = false
give_values row (input ∷ inputs) [] = false
give_values row (input ∷ inputs) (word ∷ words) = is_some (value_at row input word) && give_values row inputs words

-- the row with the value of a word, if there is one
abbrev pub with_value : List Word → ℕ → Option Word → List Word
with_value row input None = row
with_value row input (Some value) = slice_set row input value

-- the row with the values of words
abbrev pub filled : List ℕ → List (List ℕ) → List Word → List Word
filled [] words row = row
filled (input ∷ inputs) [] row = row
filled (input ∷ inputs) (word ∷ words) row = filled inputs words (with_value row input (value_at row input word))
