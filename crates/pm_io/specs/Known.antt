-- The bytes of an object of the outside, if it tells them. Nothing is claimed about an object that tells none (`None`).
use Rattle.std.specs.Prelude.{◌≡◌, ◌++◌, ℕ, List, [], Option, None, Some}

-- the bytes stay as they were
abbrev pub Keeps : Option (List ℕ) → Option (List ℕ) → Type 0
Keeps None new = Unit {0}
Keeps (Some old) new = new ≡ Some old

-- these bytes were added at the end
abbrev pub Grows : Option (List ℕ) → Option (List ℕ) → List ℕ → Type 0
Grows None new added = Unit {0}
Grows (Some old) new added = new ≡ Some (old ++ added)

-- these bytes were taken from the start
abbrev pub Loses : Option (List ℕ) → Option (List ℕ) → List ℕ → Type 0
Loses None new taken = Unit {0}
Loses (Some old) new taken = (rest : List ℕ) × (new ≡ Some rest) × (old ≡ taken ++ rest)

-- they are these bytes
abbrev pub Are : Option (List ℕ) → List ℕ → Type 0
Are None bytes = Unit {0}
Are (Some known) bytes = known ≡ bytes

-- a prefix of these bytes was added at the end
abbrev pub GrowsByFront : Option (List ℕ) → Option (List ℕ) → List ℕ → Type 0
GrowsByFront old new whole = (prefix rest : List ℕ) × (whole ≡ prefix ++ rest) × Grows old new prefix

-- nothing is left of them
abbrev pub Empties : Option (List ℕ) → Option (List ℕ) → Type 0
Empties None new = Unit {0}
Empties (Some old) new = new ≡ Some []
