-- Tables of bits.
use Rattle.std.specs.Prelude.{◌≡◌, ℕ, ◌+◌, ◌*◌, ◌/◌, ◌%◌, List, Bool, IsFalse, ◌&&◌, ◌||◌, eqb, ltb, slice_index}
use Rattle.std.specs.Int.{bit_at}

-- how many rows and columns there are, and the words with the bits, row after row
pub record Table : Type 0 where
  pub rows : ℕ
  pub columns : ℕ
  pub words : List ℕ

-- the bit of a row, where each row takes so many words of 64 bits
abbrev pub bit : List ℕ → ℕ → ℕ → ℕ → Bool
bit words width row column = eqb (bit_at (slice_index words (row * width + column / 64)) (column % 64)) 1

-- how many words a row takes
abbrev pub words_in : ℕ → ℕ
words_in columns = (columns + 63) / 64

-- whether the table has the place, and its bit is set
unfoldable pub is_set : Table → ℕ → ℕ → Bool
is_set table row column =
    ltb row table.rows && (ltb column table.columns && bit table.words (words_in table.columns) row column)

-- the table has these sizes, and no bit is set
pub record IsEmpty (table : Table) (rows columns : ℕ) : Type 0 where
  pub rows_are : table.rows ≡ rows
  pub columns_are : table.columns ≡ columns
  pub clear : (row column : ℕ) → IsFalse (is_set table row column)

-- the new table is the old one with some more bits set
pub record Adds (old new : Table) (more : ℕ → ℕ → Bool) : Type 0 where
  pub rows : new.rows ≡ old.rows
  pub columns : new.columns ≡ old.columns
  pub bits : (row column : ℕ) → is_set new row column ≡ (is_set old row column || more row column)
