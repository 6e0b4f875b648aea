-- What the objects in memory hold.
use Rattle.std.specs.Prelude.{ℕ, ◌+◌, ◌<◌, nat_lt, min, Bool, true, false, ◌||◌, List, [], ◌∷◌, ◌++◌, length, take, drop, All, flat_map, if◌then◌else◌}
use Rattle.pm_io.specs.Calls.{Calls, next_fails, called}
use Rattle.pm_io.specs.declared.source.Got.{Got}
use Rattle.pm_io.specs.declared.source.Got.TheVariants as got
use Rattle.pm_io.specs.declared.sink.Took.{Took}
use Rattle.pm_io.specs.declared.sink.Took.TheVariants as took

-- ---- a source

-- a source in memory: the pieces that are left, without the bytes that were read of the first, and its calls
pub record PiecesLeft : Type 0 where
  pub pieces : List (List ℕ)
  pub calls : Calls

-- the bytes of the pieces, one piece after the other
abbrev pub joined : List (List ℕ) → List ℕ
joined pieces = flat_map (λ piece. piece) pieces

-- no piece is empty
abbrev pub AreFilled : List (List ℕ) → Type 0
AreFilled pieces = All (λ piece. 0 < length piece) pieces

-- the pieces without the first `count` bytes of the first piece
abbrev pub cut_first : ℕ → List (List ℕ) → List (List ℕ)
cut_first count [] = []
cut_first count (piece ∷ pieces) = drop count piece ∷ pieces

-- the pieces from the one of this number on, counted from 0, without the first `at` bytes of that one
abbrev pub pieces_from : ℕ → ℕ → List (List ℕ) → List (List ℕ)
pieces_from piece at pieces = cut_first at (drop piece pieces)

-- the first piece, or no bytes if there is none
abbrev pub first_of : List (List ℕ) → List ℕ
first_of [] = []
first_of (piece ∷ pieces) = piece

-- the pieces that are left when `count` bytes of the first have been read
abbrev pub left_after : ℕ → List (List ℕ) → List (List ℕ)
left_after count [] = []
left_after count (piece ∷ pieces) = if nat_lt count (length piece) then drop count piece ∷ pieces else pieces

-- what a read that doesn't fail gives: the first piece, or as much of it as there is room for
abbrev pub got_of : List (List ℕ) → ℕ → Got
got_of [] room = got.End
got_of (piece ∷ pieces) room = got.Bytes (min room (length piece))

-- the pieces that are left after a read
abbrev pub left_by : Got → List (List ℕ) → List (List ℕ)
left_by (got.Bytes count) pieces = left_after count pieces
left_by got.End pieces = pieces
left_by got.Failed pieces = pieces

-- ---- a sink

-- a sink in memory: what it holds, how much it can hold, the most bytes that one write takes, and its calls
pub record SinkHolds : Type 0 where
  pub held : List ℕ
  pub capacity : ℕ
  pub most : ℕ
  pub calls : Calls

-- what a write adds to the sink if it doesn't fail: as much of the piece as one write takes
abbrev pub taken_of : SinkHolds → List ℕ → List ℕ
taken_of sink piece = take sink.most piece

-- whether the next write fails: it is to fail, or what it adds would pass the capacity
abbrev pub write_fails : SinkHolds → List ℕ → Bool
write_fails sink piece = next_fails sink.calls || nat_lt sink.capacity (length sink.held + min (length piece) sink.most)

-- the sink after a write
abbrev pub after_write : SinkHolds → List ℕ → SinkHolds
after_write sink piece =
    if write_fails sink piece then record sink { calls = called true sink.calls }
    else record sink { held = sink.held ++ taken_of sink piece; calls = called false sink.calls }

-- what a write returns
abbrev pub took_of : SinkHolds → List ℕ → Took
took_of sink piece = if write_fails sink piece then took.Failed else took.Bytes (min (length piece) sink.most)
