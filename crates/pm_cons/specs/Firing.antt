-- Blocks that fire once their direct predecessors have fired, in any order and as often as they like.
use Rattle.std.specs.Prelude.{◌<◌, ℕ, List, [], ◌∷◌, true, IsTrue, cond, eqb}
use Rattle.pm_cons.specs.Orders.{has}
use Rattle.pm_cons.specs.Settled.{seen_by, left_or, last_of}
use Rattle.pm_cons.specs.UpdateBlocks.{UpdateBlocks, Valuation}

-- the blocks that have fired, and the values that each recorded
pub record State (P : Type 0) : Type 0 where
  pub fired : List ℕ
  pub recorded : ℕ → Valuation P

-- no block has fired
abbrev pub none_fired : {P : Type 0} → State P
none_fired = record { fired = []; recorded = λ b p. [] }

-- b is a block, and all its direct predecessors have fired
pub record MayFire {P : Type 0} (d : UpdateBlocks P) (s : State P) (b : ℕ) : Type 0 where
  pub known : b < d.precedence.count
  pub ready : (a : ℕ) → IsTrue (d.precedence.before a b) → IsTrue (has s.fired a)

-- b runs on what the last writers before it recorded, or the start values, and records what it leaves
abbrev pub fire : {P : Type 0} → UpdateBlocks P → Valuation P → State P → ℕ → State P
fire d start s b = record {
  fired = b ∷ s.fired;
  recorded = λ a. cond (eqb a b) (d.run b (seen_by d s.recorded start b)) (s.recorded a);
}

-- the state after the blocks have fired in this order
abbrev pub fire_all : {P : Type 0} → UpdateBlocks P → Valuation P → State P → List ℕ → State P
fire_all d start s [] = s
fire_all d start s (b ∷ events) = fire_all d start (fire d start s b) events

-- each block may fire when its turn comes
abbrev pub MayAllFire : {P : Type 0} → UpdateBlocks P → Valuation P → State P → List ℕ → Type 0
MayAllFire d start s [] = Unit {0}
MayAllFire d start s (b ∷ events) = MayFire d s b × MayAllFire d start (fire d start s b) events

-- at each place what its last writer recorded, or the start value
abbrev pub joined : {P : Type 0} → UpdateBlocks P → Valuation P → State P → Valuation P
joined d start s p = left_or s.recorded start (last_of d (λ _. true) p) p
