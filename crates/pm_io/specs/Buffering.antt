-- Bytes that wait to be written to a sink.
use Rattle.std.specs.Prelude.{◌≡◌, ◌++◌, ℕ, List, [], Option}
use Rattle.pm_io.specs.Known.{Grows, GrowsByFront}
use Rattle.pm_io.specs.declared.sink.Put.{Put}
use Rattle.pm_io.specs.declared.sink.Put.TheVariants as put

-- the piece comes after the bytes that wait, and a prefix of all these may have gone to the sink, also after a failure
abbrev pub Queues : Option (List ℕ) → Option (List ℕ) → List ℕ → List ℕ → List ℕ → Put → Type 0
Queues old new waiting waiting' piece put.All = (prefix : List ℕ) × Grows old new prefix × (waiting ++ piece ≡ prefix ++ waiting')
Queues old new waiting waiting' piece put.Failed = GrowsByFront old new (waiting ++ piece)

-- all the bytes that waited have gone to the sink, or after a failure a prefix of them
abbrev pub Flushes : Option (List ℕ) → Option (List ℕ) → List ℕ → List ℕ → Put → Type 0
Flushes old new waiting waiting' put.All = Grows old new waiting × (waiting' ≡ [])
Flushes old new waiting waiting' put.Failed = GrowsByFront old new waiting
