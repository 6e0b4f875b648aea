-- Events before paths.
use Rattle.std.proofs.Common.{◌≡◌, ◌∙◌, ◌<◌, ◌++◌, ◌&&◌, ◌||◌, List, [], ◌∷◌, length, map, Bool, true, false, not}
use Rattle.std.proofs.Common.{refl, sym, ap, ap₂, arith}
use Rattle.std.specs.List.{list_all, list_any}
use Rattle.std.proofs.lemmas.List.Folds.{list_any-append, list_all-append}
use Rattle.pm_touched.specs.Events.{Place, Event, Path, before, is_same, is_among, is_read, is_written, is_set}
use Rattle.pm_touched.specs.Events.{reads_on, writes_on, sets_on, reads_first_on}
use Rattle.pm_touched.specs.Events.Event.{Read, Write, MayWrite}
use Rattle.pm_touched.specs.Touches.{Touch}
use Rattle.pm_touched.specs.Walks.{reading, writing, picking, untouched, followed_by, either_of}
use Rattle.pm_touched.proofs.Bools.{and_false, any_more, any_last, all_more, or_true, or_assoc, early_then, either_any}
use Rattle.pm_touched.proofs.Bools.{either_all, either_early, read_on, write_on}

-- paths that are followed by others do with a place what a walk finds
pub record IsWalked (x : Place) (f : List Path → List Path) (t : Touch) : Type 0 where
  pub some : (rest : List Path) → 0 < length rest → 0 < length (f rest)
  pub reads : (rest : List Path) → 0 < length rest →
      list_any (reads_on x) (f rest) ≡ (t.read || list_any (reads_on x) rest)
  pub writes : (rest : List Path) → 0 < length rest →
      list_any (writes_on x) (f rest) ≡ (t.written || list_any (writes_on x) rest)
  pub sets : (rest : List Path) → 0 < length rest →
      list_all (sets_on x) (f rest) ≡ (t.surely || list_all (sets_on x) rest)
  pub first : (rest : List Path) → 0 < length rest →
      list_any (reads_first_on x) (f rest) ≡ (t.early || (not t.surely && list_any (reads_first_on x) rest))

-- some of the paths, where each passes for one reason or where a rest of it does
any_before : (h : Path → Bool) (a n : Bool) (events : List Event) →
    ((path : Path) → h (events ++ path) ≡ (a || (n && h path))) →
    (rest : List Path) → 0 < length rest → list_any h (before events rest) ≡ (a || (n && list_any h rest))
any_before h a n events each [] lt = absurd (omega arith)
any_before h a n events each (p ∷ []) lt = ap (λ (b : Bool). b || false) (each p) ∙ any_last a n (h p)
any_before h a n events each (p ∷ q ∷ rest) lt =
    ap₂ (λ (b c : Bool). b || c) (each p) (any_before h a n events each (q ∷ rest) (omega arith))
    ∙ any_more a n (h p) (list_any h (q ∷ rest))

all_before : (h : Path → Bool) (a : Bool) (events : List Event) →
    ((path : Path) → h (events ++ path) ≡ (a || h path)) →
    (rest : List Path) → list_all h (before events rest) ≡ (a || list_all h rest)
all_before h a events each [] = sym (or_true a)
all_before h a events each (p ∷ rest) =
    ap₂ (λ (b c : Bool). b && c) (each p) (all_before h a events each rest) ∙ all_more a (h p) (list_all h rest)

some_before : (events : List Event) (rest : List Path) → 0 < length rest → 0 < length (before events rest)
some_before events [] lt = absurd (omega arith)
some_before events (p ∷ rest) lt = omega arith

-- what comes first on a path
first_before : (x : Place) (events : List Event) (path : Path) →
    reads_first_on x (events ++ path) ≡ (reads_first_on x events || (not (sets_on x events) && reads_first_on x path))
first_before x [] path = refl
first_before x (Read y ∷ events) path =
    ap (λ (b : Bool). is_same x y || b) (first_before x events path)
    ∙ read_on (is_same x y) (reads_first_on x events) (sets_on x events) (reads_first_on x path)
first_before x (Write y ∷ events) path =
    ap (λ (b : Bool). not (is_same x y) && b) (first_before x events path)
    ∙ write_on (is_same x y) (reads_first_on x events) (sets_on x events) (reads_first_on x path)
first_before x (MayWrite y ∷ events) path = first_before x events path

-- what events do with a place
pub record AreEvents (x : Place) (events : List Event) (t : Touch) : Type 0 where
  pub read : reads_on x events ≡ t.read
  pub written : writes_on x events ≡ t.written
  pub surely : sets_on x events ≡ t.surely
  pub early : reads_first_on x events ≡ t.early

events_walked : (x : Place) (events : List Event) (t : Touch) → AreEvents x events t → IsWalked x (before events) t
events_walked x events t are = record {
  some = some_before events;
  reads = λ rest lt. any_before (reads_on x) t.read true events
      (λ path. list_any-append (is_read x) events path ∙ ap (λ (b : Bool). b || reads_on x path) are.read) rest lt;
  writes = λ rest lt. any_before (writes_on x) t.written true events
      (λ path. list_any-append (is_written x) events path ∙ ap (λ (b : Bool). b || writes_on x path) are.written) rest lt;
  sets = λ rest lt. all_before (sets_on x) t.surely events
      (λ path. list_any-append (is_set x) events path ∙ ap (λ (b : Bool). b || sets_on x path) are.surely) rest;
  first = λ rest lt. any_before (reads_first_on x) t.early (not t.surely) events
      (λ path. first_before x events path ∙ ap₂ (λ (b c : Bool). b || (not c && reads_first_on x path)) are.early are.surely)
      rest lt;
}

-- reads
reads_are : (x : Place) (places : List Place) → AreEvents x (map Read places) (reading (is_among x places))
reads_are x [] = record { read = refl; written = refl; surely = refl; early = refl }
reads_are x (y ∷ places) =
    let rest : AreEvents x (map Read places) (reading (is_among x places)) = reads_are x places in
    record {
      read = ap (λ (b : Bool). is_same x y || b) rest.read;
      written = rest.written;
      surely = rest.surely;
      early = ap (λ (b : Bool). is_same x y || b) rest.early;
    }

-- writes
writes_are : (x : Place) (places : List Place) → AreEvents x (map Write places) (writing (is_among x places))
writes_are x [] = record { read = refl; written = refl; surely = refl; early = refl }
writes_are x (y ∷ places) =
    let rest : AreEvents x (map Write places) (writing (is_among x places)) = writes_are x places in
    record {
      read = rest.read;
      written = ap (λ (b : Bool). is_same x y || b) rest.written;
      surely = ap (λ (b : Bool). is_same x y || b) rest.surely;
      early = ap (λ (b : Bool). not (is_same x y) && b) rest.early ∙ and_false (not (is_same x y));
    }

-- elements of a dynamic index
picks_are : (x : Place) (places : List Place) → AreEvents x (map MayWrite places) (picking (is_among x places))
picks_are x [] = record { read = refl; written = refl; surely = refl; early = refl }
picks_are x (y ∷ places) =
    let rest : AreEvents x (map MayWrite places) (picking (is_among x places)) = picks_are x places in
    record {
      read = rest.read;
      written = ap (λ (b : Bool). is_same x y || b) rest.written;
      surely = rest.surely;
      early = rest.early;
    }

pub walked_reads : (x : Place) (places : List Place) → IsWalked x (before (map Read places)) (reading (is_among x places))
walked_reads x places = events_walked x (map Read places) (reading (is_among x places)) (reads_are x places)

pub walked_writes : (x : Place) (places : List Place) → IsWalked x (before (map Write places)) (writing (is_among x places))
walked_writes x places = events_walked x (map Write places) (writing (is_among x places)) (writes_are x places)

pub walked_picks : (x : Place) (places : List Place) → IsWalked x (before (map MayWrite places)) (picking (is_among x places))
walked_picks x places = events_walked x (map MayWrite places) (picking (is_among x places)) (picks_are x places)

pub walked_none : (x : Place) → IsWalked x (λ rest. rest) untouched
walked_none x = record {
  some = λ rest lt. lt;
  reads = λ rest lt. refl;
  writes = λ rest lt. refl;
  sets = λ rest lt. refl;
  first = λ rest lt. refl;
}

pub walked_then : (x : Place) (f g : List Path → List Path) (a b : Touch) → IsWalked x f a → IsWalked x g b →
    IsWalked x (λ rest. f (g rest)) (followed_by a b)
walked_then x f g a b one two = record {
  some = λ rest lt. one.some (g rest) (two.some rest lt);
  reads = λ rest lt.
      one.reads (g rest) (two.some rest lt) ∙ (ap (λ (c : Bool). a.read || c) (two.reads rest lt)
      ∙ or_assoc a.read b.read (list_any (reads_on x) rest));
  writes = λ rest lt.
      one.writes (g rest) (two.some rest lt) ∙ (ap (λ (c : Bool). a.written || c) (two.writes rest lt)
      ∙ or_assoc a.written b.written (list_any (writes_on x) rest));
  sets = λ rest lt.
      one.sets (g rest) (two.some rest lt) ∙ (ap (λ (c : Bool). a.surely || c) (two.sets rest lt)
      ∙ or_assoc a.surely b.surely (list_all (sets_on x) rest));
  first = λ rest lt.
      one.first (g rest) (two.some rest lt)
      ∙ (ap (λ (c : Bool). a.early || (not a.surely && c)) (two.first rest lt)
      ∙ early_then a.early a.surely b.early b.surely (list_any (reads_first_on x) rest));
}

some_either : (some more : List Path) → 0 < length some → 0 < length (some ++ more)
some_either [] more lt = absurd (omega arith)
some_either (p ∷ some) more lt = omega arith

pub walked_either : (x : Place) (f g : List Path → List Path) (a b : Touch) → IsWalked x f a → IsWalked x g b →
    IsWalked x (λ rest. f rest ++ g rest) (either_of a b)
walked_either x f g a b one two = record {
  some = λ rest lt. some_either (f rest) (g rest) (one.some rest lt);
  reads = λ rest lt.
      list_any-append (reads_on x) (f rest) (g rest)
      ∙ (ap₂ (λ (c d : Bool). c || d) (one.reads rest lt) (two.reads rest lt)
      ∙ either_any a.read b.read (list_any (reads_on x) rest));
  writes = λ rest lt.
      list_any-append (writes_on x) (f rest) (g rest)
      ∙ (ap₂ (λ (c d : Bool). c || d) (one.writes rest lt) (two.writes rest lt)
      ∙ either_any a.written b.written (list_any (writes_on x) rest));
  sets = λ rest lt.
      list_all-append (sets_on x) (f rest) (g rest)
      ∙ (ap₂ (λ (c d : Bool). c && d) (one.sets rest lt) (two.sets rest lt)
      ∙ either_all a.surely b.surely (list_all (sets_on x) rest));
  first = λ rest lt.
      list_any-append (reads_first_on x) (f rest) (g rest)
      ∙ (ap₂ (λ (c d : Bool). c || d) (one.first rest lt) (two.first rest lt)
      ∙ either_early a.early a.surely b.early b.surely (list_any (reads_first_on x) rest));
}
