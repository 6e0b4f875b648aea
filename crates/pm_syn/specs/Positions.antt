-- A position of a text: the number of its line, and what is before it on that line.
use Rattle.std.specs.Prelude.{◌+◌, ◌==◌, ◌||◌, ℕ, Bool, false, if◌then◌else◌, List, [], ◌∷◌}
use Rattle.pm_io.specs.declared.lines.TheConstants.{LF}

-- how many lines end in the bytes
abbrev pub line_ends : List ℕ → ℕ
line_ends [] = 0
line_ends (byte ∷ bytes) = (if byte == LF then 1 else 0) + line_ends bytes

-- the number of the line on which the text after these bytes begins, counted from 1
abbrev pub line_after : List ℕ → ℕ
line_after bytes = 1 + line_ends bytes

-- whether a line ends in the bytes
abbrev pub has_line_end : List ℕ → Bool
has_line_end [] = false
has_line_end (byte ∷ bytes) = byte == LF || has_line_end bytes

-- the bytes after the last line end
abbrev pub last_line : List ℕ → List ℕ
last_line [] = []
last_line (byte ∷ bytes) = if has_line_end (byte ∷ bytes) then last_line bytes else byte ∷ bytes
