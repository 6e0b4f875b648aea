-- The buffer of a reader of lines.
use Rattle.std.specs.Prelude.{◌≡◌, ◌≢◌, ◌+◌, ◌<◌, ◌≤◌, ℕ, List, [], Option, None, Some, false, length, take, slice_index}
use Rattle.std.specs.List.{between}
use Rattle.pm_io.specs.Known.{Are}
use Rattle.pm_io.specs.Lines.{HasNoLineEnd}
use Rattle.pm_io.specs.Reading.{Reading}
use Rattle.pm_io.specs.declared.source.Got.{Got}
use Rattle.pm_io.specs.declared.source.Got.TheVariants as read
use Rattle.pm_io.specs.declared.lines.TheConstants.{LF}
use Rattle.pm_io.specs.declared.lines.LineGot.{LineGot}
use Rattle.pm_io.specs.declared.lines.LineGot.TheVariants as got

-- what is buffered lies from `start` to `filled`, with no line end before `scanned`; the line that was given last is the
-- first `line_length` bytes of its own room
pub record IsLineBuffer (limit : ℕ) (buffer : List ℕ) (start scanned filled : ℕ) (line : List ℕ) (line_length : ℕ) : Type 0 where
  pub room : length buffer ≡ limit + 1
  pub begun : start ≤ scanned
  pub searched : scanned ≤ filled
  pub inside : filled ≤ length buffer
  pub scanned_clean : HasNoLineEnd (between start scanned buffer)
  pub line_room : length line ≡ limit + 1
  pub line_inside : line_length ≤ length line

-- the index of the first line end among the bytes, if there is one
abbrev pub FindsLineEnd : List ℕ → Option ℕ → Type 0
FindsLineEnd bytes None = HasNoLineEnd bytes
FindsLineEnd bytes (Some index) = (index < length bytes) × HasNoLineEnd (take index bytes) × (slice_index bytes index ≡ LF)

-- what one read does to the bytes that are buffered, and what it tells about the bytes that the source had left
abbrev pub Fills : List ℕ → List ℕ → Option (List ℕ) → Got → Type 0
Fills old new left (read.Bytes count) = length old < length new
Fills old new left read.End = (new ≡ old) × Are left []
Fills old new left read.Failed = new ≡ old

-- what happens to the bytes that are buffered at the end of the source: they are the last line, unless there are none
abbrev pub Finishes : Reading → Reading → LineGot → Type 0
Finishes old new got.Line = (old.buffered ≢ []) × (new ≡ record old { buffered = []; line = old.buffered })
Finishes old new got.End = (old.buffered ≡ []) × (new ≡ record old { live = false })
Finishes old new got.TooLong = ⊥
Finishes old new got.Failed = ⊥
