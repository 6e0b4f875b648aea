-- Bodies by line, and those of one line in their order.
use Rattle.std.specs.Prelude.{ℕ, nat_lt, if◌then◌else◌, List, [], ◌∷◌}
use Rattle.pm_elab.specs.declared.body.RawBody.{RawBody}

-- a value in front of the first one of its rank or a higher one
unfoldable pub placed : {X : Type 0} → (X → ℕ) → X → List X → List X
placed rank x [] = x ∷ []
placed rank x (y ∷ ys) = if nat_lt (rank y) (rank x) then y ∷ placed rank x ys else x ∷ y ∷ ys

-- values by rank, and those of one rank in their order
unfoldable pub by_rank : {X : Type 0} → (X → ℕ) → List X → List X
by_rank rank [] = []
by_rank rank (x ∷ xs) = placed rank x (by_rank rank xs)

-- bodies by line, and those of one line in their order
abbrev pub by_line : List RawBody → List RawBody
by_line = by_rank (λ b. b.line)
