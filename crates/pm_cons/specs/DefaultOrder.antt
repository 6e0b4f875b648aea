-- The default order: at each place the least block whose predecessors are all listed already.
use Rattle.std.specs.Prelude.{ℕ, zero, suc, List, [], ◌∷◌, Bool, not, ◌&&◌, ◌||◌, Option, Some, None}
use Rattle.pm_cons.specs.Below.{all_below, least_below}
use Rattle.pm_cons.specs.Orders.{has}
use Rattle.pm_cons.specs.Precedence.{Precedence}

-- whether b isn't listed yet and all its direct predecessors are
abbrev pub is_ready : Precedence → (ℕ → Bool) → ℕ → Bool
is_ready g listed b = not (listed b) && all_below g.count (λ a. not (g.before a b) || listed a)

-- the least such block
unfoldable pub next_block : Precedence → (ℕ → Bool) → Option ℕ
next_block g listed = least_below g.count (is_ready g listed)

-- the block and what follows it, or nothing if there is no block
abbrev pub then_more : Option ℕ → (ℕ → List ℕ) → List ℕ
then_more None more = []
then_more (Some b) more = b ∷ more b

-- at most k blocks of the default order, after those that are listed
unfoldable pub order_after : ℕ → Precedence → List ℕ → List ℕ
order_after zero g listed = []
order_after (suc k) g listed = then_more (next_block g (has listed)) (λ b. order_after k g (b ∷ listed))

-- the default order; it ends early if no block is ready, which only a loop causes
abbrev pub default_order_of : Precedence → List ℕ
default_order_of g = order_after g.count g []
