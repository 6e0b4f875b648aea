-- Names and what they stand for, in the order in which they were first put.
use Rattle.std.specs.Prelude.{◌≡◌, ℕ, List, [], ◌∷◌, ◌++◌, map, Option, Some, None, Vec, if◌then◌else◌, false, is_some, true}
use Rattle.std.specs.Map.{lookup}
use Rattle.std.specs.Str.{bytes_eq}
use Rattle.std.specs.declared.alloc.Global.{Global}

-- pairs of a name and what it stands for
abbrev pub Names : Type 0 → Type 0
Names T = List (List ℕ × T)

-- the pairs of a map's entries
abbrev pub names_of : {T : Type 0} → List (Vec ℕ Global × T) → Names T
names_of = map (λ e. (e.0.items, e.1))

-- what a name stands for
abbrev pub get : {T : Type 0} → Names T → List ℕ → Option T
get names name = lookup (bytes_eq name) names

-- a new name goes to the end, and one that is there keeps its place
abbrev pub put : {T : Type 0} → Names T → List ℕ → T → Names T
put [] name value = (name, value) ∷ []
put (pair ∷ pairs) name value = if bytes_eq name pair.0 then (pair.0, value) ∷ pairs else pair ∷ put pairs name value

-- ---- laws

-- a name that was put stands for its value
abbrev pub PutIsFound : Type 0 → Type 0
PutIsFound T = (names : Names T) (name : List ℕ) (value : T) → get (put names name value) name ≡ Some value

-- other names stand for what they stood for
abbrev pub OthersStay : Type 0 → Type 0
OthersStay T = (names : Names T) (name other : List ℕ) (value : T) → bytes_eq other name ≡ false → get (put names name value) other ≡ get names other

-- a new name goes to the end
abbrev pub NewNameIsLast : Type 0 → Type 0
NewNameIsLast T = (names : Names T) (name : List ℕ) (value : T) → get names name ≡ None → put names name value ≡ names ++ (name, value) ∷ []

-- a name that is there keeps its place, and so do the others
abbrev pub OldNameStays : Type 0 → Type 0
OldNameStays T = (names : Names T) (name : List ℕ) (value : T) → is_some (get names name) ≡ true → map (λ p. p.0) (put names name value) ≡ map (λ p. p.0) names
