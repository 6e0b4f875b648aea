-- What is true of vectors and traces.
use Rattle.std.specs.Prelude.{◌≡◌, ◌<◌, ◌≤◌, ◌^◌, ◌++◌, ℕ, List, Some, codes}
use Rattle.pm_bits.specs.Word.{Word}
use Rattle.pm_trace.specs.Rows.{ReadsRow}
use Rattle.pm_trace.specs.Trace.{hex_of}
use Rattle.pm_trace.specs.Values.{value_of}
use Rattle.pm_trace.specs.declared.row.RowGot.{RowGot}

-- a line is read in one way
abbrev pub RowsHaveOneReading : Type 0
RowsHaveOneReading = (inputs line : List ℕ) (old new other : List Word) (got too : RowGot)
    → ReadsRow inputs line old new got → ReadsRow inputs line old other too → (got ≡ too) × (new ≡ other)

-- a value that is printed is read back
abbrev pub ValuesAreReadBack : Type 0
ValuesAreReadBack = (word : Word) → 1 ≤ word.width → word.value < 2 ^ word.width
    → value_of word.width (codes "0x" ++ hex_of word) ≡ Some word
