-- The lines that the next line may be inside, as the program keeps them.
use Rattle.std.specs.Prelude.{◌&&◌, ◌||◌, ℕ, Bool, false, nat_le, List, [], ◌∷◌, if◌then◌else◌}
use Rattle.pm_syn.specs.declared.token.Line.{Line}
use Rattle.pm_syn.specs.declared.token.Token.{Token}
use Rattle.pm_parse.specs.Enclosing.{enclosing}
use Rattle.pm_parse.specs.Skipped.{begins_class, begins_printer, has_printer}
use Rattle.pm_parse.specs.declared.enclosing.EnclosingLine.{EnclosingLine}

-- the line before, and the lines that it is inside
abbrev pub candidates : List Line → List Line
candidates [] = []
candidates (line ∷ before) = line ∷ enclosing (λ (l : Line). l.column) line.column before

-- what is kept of a line inside these lines
abbrev pub enclosing_line : Line → List Line → EnclosingLine
enclosing_line line outer = record {
  column = line.column;
  begins_class = begins_class line.tokens;
  is_skipped = has_printer (line ∷ outer);
}

-- what is kept of lines, each of which is inside those listed after it
abbrev pub enclosing_lines : List Line → List EnclosingLine
enclosing_lines [] = []
enclosing_lines (line ∷ outer) = enclosing_line line outer ∷ enclosing_lines outer

-- what is kept after some lines, the last one first
abbrev pub enclosing_after : List Line → List EnclosingLine
enclosing_after before = enclosing_lines (candidates before)

-- the innermost line is no less deep than this column
abbrev pub is_within : ℕ → List EnclosingLine → Bool
is_within column [] = false
is_within column (nearest ∷ outer) = nat_le column nearest.column

-- the lines without the innermost ones that are no less deep than this column
abbrev pub above : ℕ → List EnclosingLine → List EnclosingLine
above column [] = []
above column (header ∷ outer) = if nat_le column header.column then above column outer else header ∷ outer

-- a line of these tokens inside these lines is skipped
abbrev pub is_skipped_under : List Token → List EnclosingLine → Bool
is_skipped_under tokens [] = false
is_skipped_under tokens (header ∷ outer) = header.is_skipped || (header.begins_class && begins_printer tokens)
