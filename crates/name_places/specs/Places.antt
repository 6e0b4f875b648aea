-- The places of names in a list.
use Rattle.std.specs.Prelude.{◌≡◌, ℕ, List, position, Option, Some, None, if◌then◌else◌}
use Rattle.std.specs.Str.{bytes_eq}
use Rattle.pm_values.specs.Tables.{Names, get}

-- the place of the first item with this name
abbrev pub place_by : {X : Type 0} → (X → List ℕ) → List X → List ℕ → Option ℕ
place_by name_of items name = position (λ item. bytes_eq (name_of item) name) items

-- the table has the place of each name of the items
abbrev pub FindsPlaces : {X : Type 0} → (X → List ℕ) → List X → Names ℕ → Type 0
FindsPlaces name_of items places = (name : List ℕ) → get places name ≡ place_by name_of items name

-- the first place, and if there is none the second
abbrev pub first_of : Option ℕ → Option ℕ → Option ℕ
first_of (Some first) second = Some first
first_of None second = second

-- a name has this place unless it had one, and the others have what they had
abbrev pub KeepsFirst : Names ℕ → List ℕ → ℕ → Names ℕ → Type 0
KeepsFirst old name place new =
    (other : List ℕ) → get new other ≡ first_of (get old other) (if bytes_eq name other then Some place else None)
