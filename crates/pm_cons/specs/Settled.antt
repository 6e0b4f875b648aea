-- What each block sees and leaves, by demand along the precedence, and the settled values. No order is chosen.
use Rattle.std.specs.Prelude.{◌≡◌, ℕ, zero, suc, Option, Some, None, List, Bool, true, ◌&&◌, ◌||◌, not, eqb}
use Rattle.pm_bits.specs.Word.{Word}
use Rattle.pm_cons.specs.Below.{all_below, least_below}
use Rattle.pm_cons.specs.Precedence.{precedes}
use Rattle.pm_cons.specs.UpdateBlocks.{UpdateBlocks, Valuation}

-- whether w is the last writer of p among the blocks that pass: each other one precedes it
abbrev pub is_last : {P : Type 0} → UpdateBlocks P → (ℕ → Bool) → P → ℕ → Bool
is_last d among p w = d.writes w p && (among w && all_below d.precedence.count
    (λ u. not (d.writes u p && among u) || (eqb u w || precedes d.precedence u w)))

-- the last writer of p among the blocks that pass
unfoldable pub last_of : {P : Type 0} → UpdateBlocks P → (ℕ → Bool) → P → Option ℕ
last_of d among p = least_below d.precedence.count (is_last d among p)

-- the last writer of p that precedes b
abbrev pub last_before : {P : Type 0} → UpdateBlocks P → ℕ → P → Option ℕ
last_before d b p = last_of d (λ w. precedes d.precedence w b) p

-- what the writer leaves at p, or p's start value if there is no writer
abbrev pub left_or : {P : Type 0} → (ℕ → Valuation P) → Valuation P → Option ℕ → P → List Word
left_or left start None p = start p
left_or left start (Some w) p = left w p

-- what b sees, if each block leaves the given valuation
abbrev pub seen_by : {P : Type 0} → UpdateBlocks P → (ℕ → Valuation P) → Valuation P → ℕ → Valuation P
seen_by d left start b p = left_or left start (last_before d b p) p

-- what b leaves, following the precedence back through at most k blocks
unfoldable pub left_to : {P : Type 0} → ℕ → UpdateBlocks P → Valuation P → ℕ → Valuation P
left_to zero d start b = start
left_to (suc k) d start b = d.run b (seen_by d (left_to k d start) start b)

-- what b leaves: without a loop, no block has a chain of predecessors with more blocks than there are
unfoldable pub left : {P : Type 0} → UpdateBlocks P → Valuation P → ℕ → Valuation P
left d start = left_to (suc d.precedence.count) d start

-- what b sees: at each place what the last writer before b leaves, or the start value
abbrev pub seen : {P : Type 0} → UpdateBlocks P → Valuation P → ℕ → Valuation P
seen d start b = seen_by d (left d start) start b

-- the settled values: at each place what its last writer leaves, or the start value
unfoldable pub settled : {P : Type 0} → UpdateBlocks P → Valuation P → Valuation P
settled d start p = left_or (left d start) start (last_of d (λ _. true) p) p

-- each block leaves its run on what it sees
abbrev pub IsLeft : {P : Type 0} → UpdateBlocks P → Valuation P → (ℕ → Valuation P) → Type 0
IsLeft {P} d start f = (b : ℕ) (p : P) → f b p ≡ d.run b (seen_by d f start b) p
