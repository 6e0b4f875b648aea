-- A precedence in a table of bits, and listed blocks as flags.
use Rattle.std.specs.Prelude.{ℕ, List, Bool, false, slice_index_or}
use Rattle.bit_table.specs.Tables.{Table, is_set}
use Rattle.pm_cons.specs.Precedence.{Precedence}

-- the precedence in which a block's direct predecessors are the columns that are set in its row
abbrev pub precedence_in : Table → Precedence
precedence_in table = record { count = table.rows; before = λ a b. is_set table b a }

-- whether the flag of a block is set
abbrev pub flag : List Bool → ℕ → Bool
flag flags b = slice_index_or flags b false
