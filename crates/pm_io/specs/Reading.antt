-- A source that is read line by line.
use Rattle.std.specs.Prelude.{◌≡◌, ◌++◌, ◌<◌, ◌≤◌, ℕ, Bool, true, false, List, [], ◌∷◌, Option, None, Some, length}
use Rattle.std.specs.Option.{option_map}
use Rattle.pm_io.specs.Lines.{Line, lines_of, content}
use Rattle.pm_io.specs.declared.lines.LineGot.{LineGot}
use Rattle.pm_io.specs.declared.lines.LineGot.TheVariants as got

-- a reader of lines: how long a line may be, the bytes that it has read and not given, the line that it gave last, and
-- whether it may be asked for another
pub record Reading : Type 0 where
  pub limit : ℕ
  pub buffered : List ℕ
  pub line : List ℕ
  pub live : Bool

-- a reader that hasn't read anything
abbrev pub new_reading : ℕ → Reading
new_reading limit = record { limit = limit; buffered = []; line = []; live = true }

-- the bytes that are still to be given: the buffered ones, then what the source has left, if it tells that
abbrev pub ahead : List ℕ → Option (List ℕ) → Option (List ℕ)
ahead buffered left = option_map (λ rest. buffered ++ rest) left

-- a line was given
abbrev pub is_line : LineGot → Bool
is_line got.Line = true
is_line got.End = false
is_line got.TooLong = false
is_line got.Failed = false

-- what was given of the bytes ahead: their first line; or nothing, since there are none; or nothing, since their first
-- line is longer than the limit; or nothing, after a failure, and no byte is lost
abbrev pub Gives : Option (List ℕ) → Option (List ℕ) → ℕ → List ℕ → LineGot → Type 0
Gives None now limit given answer = Unit {0}
Gives (Some text) now limit given got.Line =
    (first : Line) × (rest : List ℕ) × (lines_of text ≡ first ∷ lines_of rest) × (now ≡ Some rest)
    × (length first.bytes ≤ limit) × (given ≡ content first)
Gives (Some text) now limit given got.End = (text ≡ []) × (now ≡ Some [])
Gives (Some text) now limit given got.TooLong =
    (first : Line) × (rest : List Line) × (lines_of text ≡ first ∷ rest) × (limit < length first.bytes)
Gives (Some text) now limit given got.Failed = now ≡ Some text
