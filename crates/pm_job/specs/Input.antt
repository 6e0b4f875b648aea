-- The rows of an input of vectors: a header line, and after it a line for each row.
use Rattle.std.specs.Prelude.{ℕ, ◌+◌, ◌^◌, ◌&&◌, nat_lt, nat_le, Bool, List, [], ◌∷◌, Option, None, Some, length, if◌then◌else◌}
use Rattle.std.specs.Str.{bytes_eq}
use Rattle.pm_bits.specs.Word.{Word}
use Rattle.pm_io.specs.Lines.{Line, content}
use Rattle.pm_job.specs.declared.component.Component.{Component}
use Rattle.pm_job.specs.Sound.{widths_of}
use Rattle.pm_job.specs.Vectors.{header_of, row_of, vector_ports}

-- the rows up to the first line that is refused, each with a value for each input but `reset`, and that line's number
pub record Vectors : Type 0 where
  pub rows : List (List Word)
  pub refused : Option ℕ

-- the widths of the inputs but `reset`
abbrev pub input_widths : Component → List ℕ
input_widths component = widths_of (vector_ports component)

-- a line has at most 65,536 bytes before its LF
abbrev pub is_short : Line → Bool
is_short line = nat_le (length line.bytes) (2 ^ 16)

-- the values of a line that isn't too long
abbrev pub line_row : List ℕ → Line → Option (List Word)
line_row widths line = if is_short line then row_of widths (content line) else None

-- the values of the line after `count` rows; there are at most 2 to the 20 rows
abbrev pub row_in : Component → ℕ → Line → Option (List Word)
row_in component count line = if nat_lt count (2 ^ 20) then line_row (input_widths component) line else None

-- a row before others
abbrev pub before_rows : List Word → Vectors → Vectors
before_rows row vectors = record { rows = row ∷ vectors.rows; refused = vectors.refused }

-- the rows of the lines that follow `count` rows; the header is line 1
abbrev pub rows_from : Component → ℕ → List Line → Vectors
rows_from component count [] = record { rows = []; refused = None }
rows_from component count (line ∷ lines) = elim (row_in component count line) as (λ _. Vectors) [
  | None ↦ record { rows = []; refused = Some (count + 2) }
  | Some row ↦ before_rows row (rows_from component (count + 1) lines)
]

-- a line is the header
abbrev pub is_header : Component → Line → Bool
is_header component line = is_short line && bytes_eq (content line) (header_of component)

-- the rows of an input, if its first line is the header; an input without lines has an empty header
abbrev pub vectors_of : Component → List Line → Option Vectors
vectors_of component [] = if bytes_eq [] (header_of component) then Some (record { rows = []; refused = None }) else None
vectors_of component (line ∷ lines) = if is_header component line then Some (rows_from component 0 lines) else None
