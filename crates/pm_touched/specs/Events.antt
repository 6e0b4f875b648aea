-- What happens on a path through a body.
use Rattle.std.specs.Prelude.{ℕ, ◌==◌, ◌&&◌, ◌||◌, Bool, false, not, List, [], ◌∷◌, ◌++◌, map}
use Rattle.std.specs.List.{list_any}

-- a bit, or a state object
pub data Place : Type 0 where
  Bit : ℕ → Place
  Object : ℕ → Place

-- two places are one
abbrev pub is_same : Place → Place → Bool
is_same (Bit a) (Bit b) = a == b
is_same (Bit a) (Object k) = false
is_same (Object j) (Bit b) = false
is_same (Object j) (Object k) = j == k

-- a place is among some
abbrev pub is_among : Place → List Place → Bool
is_among x places = list_any (is_same x) places

-- a place is read, is written, or may be written, as each element that a dynamic index may name
pub data Event : Type 0 where
  Read : Place → Event
  Write : Place → Event
  MayWrite : Place → Event

-- a path through a body: what happens, in turn
abbrev pub Path : Type 0
Path = List Event

-- some events, and then each of these paths
abbrev pub before : List Event → List Path → List Path
before events paths = map (λ path. events ++ path) paths

-- a place is read
abbrev pub is_read : Place → Event → Bool
is_read x (Read y) = is_same x y
is_read x (Write y) = false
is_read x (MayWrite y) = false

-- a place is written, or may be
abbrev pub is_written : Place → Event → Bool
is_written x (Read y) = false
is_written x (Write y) = is_same x y
is_written x (MayWrite y) = is_same x y

-- a place is written for sure: an element of a dynamic index is not
abbrev pub is_set : Place → Event → Bool
is_set x (Read y) = false
is_set x (Write y) = is_same x y
is_set x (MayWrite y) = false

-- a path reads a place
abbrev pub reads_on : Place → Path → Bool
reads_on x path = list_any (is_read x) path

-- a path writes a place, or may write it
abbrev pub writes_on : Place → Path → Bool
writes_on x path = list_any (is_written x) path

-- a path writes a place for sure
abbrev pub sets_on : Place → Path → Bool
sets_on x path = list_any (is_set x) path

-- a path reads a place before its first write
abbrev pub reads_first_on : Place → Path → Bool
reads_first_on x [] = false
reads_first_on x (Read y ∷ path) = is_same x y || reads_first_on x path
reads_first_on x (Write y ∷ path) = not (is_same x y) && reads_first_on x path
reads_first_on x (MayWrite y ∷ path) = reads_first_on x path
