-- Topological orders of the blocks, and a run in an order.
use Rattle.std.specs.Prelude.{◌<◌, ℕ, List, [], ◌∷◌, Bool, IsTrue, IsFalse, eqb}
use Rattle.std.specs.List.{list_any}
use Rattle.pm_cons.specs.Precedence.{Precedence}
use Rattle.pm_cons.specs.UpdateBlocks.{UpdateBlocks, Valuation}

-- whether the block is in the list
abbrev pub has : List ℕ → ℕ → Bool
has blocks b = list_any (λ x. eqb x b) blocks

-- b is a block, new after those that ran, and all its direct predecessors ran
pub record MayRun (g : Precedence) (ran : List ℕ) (b : ℕ) : Type 0 where
  pub known : b < g.count
  pub new : IsFalse (has ran b)
  pub ready : (a : ℕ) → IsTrue (g.before a b) → IsTrue (has ran a)

-- after the blocks that ran, latest first, each of the list may run in its turn, and then all blocks ran
abbrev pub Completes : Precedence → List ℕ → List ℕ → Type 0
Completes g ran [] = (b : ℕ) → b < g.count → IsTrue (has ran b)
Completes g ran (b ∷ blocks) = MayRun g ran b × Completes g (b ∷ ran) blocks

-- a topological order: every block once, after all its predecessors
abbrev pub IsTopological : Precedence → List ℕ → Type 0
IsTopological g order = Completes g [] order

-- the values after the blocks ran one after another, on one valuation
abbrev pub run_in_turn : {P : Type 0} → UpdateBlocks P → List ℕ → Valuation P → Valuation P
run_in_turn d [] v = v
run_in_turn d (b ∷ blocks) v = run_in_turn d blocks (d.run b v)
