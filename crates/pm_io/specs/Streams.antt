-- What one call does to a source or a sink, by its result.
use Rattle.std.specs.Prelude.{ℕ, ◌≤◌, List, [], Option, length, take}
use Rattle.pm_io.specs.Known.{Keeps, Grows, GrowsByFront, Loses, Are}
use Rattle.pm_io.specs.declared.source.Got.{Got}
use Rattle.pm_io.specs.declared.source.Got.TheVariants as got
use Rattle.pm_io.specs.declared.sink.Took.{Took}
use Rattle.pm_io.specs.declared.sink.Took.TheVariants as took
use Rattle.pm_io.specs.declared.sink.Put.{Put}
use Rattle.pm_io.specs.declared.sink.Put.TheVariants as put

-- a read moved the first bytes that were left to the start of the buffer, at least one of them;
-- at the end, and after a failure, it took nothing
abbrev pub Reads : Option (List ℕ) → Option (List ℕ) → List ℕ → Got → Type 0
Reads old new buffer (got.Bytes count) = (1 ≤ count) × (count ≤ length buffer) × Loses old new (take count buffer)
Reads old new buffer got.End = Are old [] × Keeps old new
Reads old new buffer got.Failed = Keeps old new

-- a write added a prefix of the piece, at least one byte; after a failure it added nothing
abbrev pub Writes : Option (List ℕ) → Option (List ℕ) → List ℕ → Took → Type 0
Writes old new piece (took.Bytes count) = (1 ≤ count) × (count ≤ length piece) × Grows old new (take count piece)
Writes old new piece took.Failed = Keeps old new

-- a whole piece was added, or after a failure a prefix of it
abbrev pub Puts : Option (List ℕ) → Option (List ℕ) → List ℕ → Put → Type 0
Puts old new piece put.All = Grows old new piece
Puts old new piece put.Failed = GrowsByFront old new piece
