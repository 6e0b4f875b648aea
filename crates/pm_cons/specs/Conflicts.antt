-- Pairs of blocks that touch one place, one of them writing it, and that no edges order.
use Rattle.std.specs.Prelude.{◌<◌, ℕ, List, Bool, IsTrue, not, ◌&&◌, ◌||◌}
use Rattle.pm_cons.specs.Edges.{is_listed}
use Rattle.pm_cons.specs.Precedence.{Precedence, precedes}
use Rattle.pm_cons.specs.UpdateBlocks.{UpdateBlocks, touches}

-- whether two blocks conflict at a place: both touch it, and one of them may write it
abbrev pub conflicts_at : {P : Type 0} → UpdateBlocks P → ℕ → ℕ → P → Bool
conflicts_at d a b p = (d.writes a p && touches d b p) || (d.writes b p && touches d a p)

-- for each block, every greater block that conflicts with it somewhere is listed
abbrev pub AreAllListed : {P : Type 0} → UpdateBlocks P → List (List ℕ) → Type 0
AreAllListed {P} d conflicts = (a b : ℕ) (p : P) → a < b → b < d.precedence.count →
    IsTrue (conflicts_at d a b p) → IsTrue (is_listed conflicts a b)

-- whether b is listed as in conflict with a, and neither precedes the other
abbrev pub is_unordered : Precedence → List (List ℕ) → ℕ → ℕ → Bool
is_unordered g conflicts a b = is_listed conflicts a b && (not (precedes g a b) && not (precedes g b a))
