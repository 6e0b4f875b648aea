-- Update blocks, as far as their order goes: what each reads and writes, and what its run does to a valuation. What the
-- places are is left open.
use Rattle.std.specs.Prelude.{◌≡◌, ◌⊎◌, ◌<◌, ℕ, List, Bool, IsTrue, IsFalse, ◌||◌}
use Rattle.pm_bits.specs.Word.{Word}
use Rattle.pm_cons.specs.Precedence.{Precedence, precedes, IsOfBlocks, IsAcyclic}

-- the words at each place: one word of one bit at a net, the items of a state object
abbrev pub Valuation : Type 0 → Type 0
Valuation P = P → List Word

-- the precedence of the blocks, what the run of each does to a valuation, and which places it reads and may write
pub record UpdateBlocks (P : Type 0) : Type 0 where
  pub precedence : Precedence
  pub run : ℕ → Valuation P → Valuation P
  pub reads : ℕ → P → Bool
  pub writes : ℕ → P → Bool

-- whether a block reads or may write a place
abbrev pub touches : {P : Type 0} → UpdateBlocks P → ℕ → P → Bool
touches d b p = d.reads b p || d.writes b p

-- edges and writes are of blocks that there are
pub record IsWithin {P : Type 0} (d : UpdateBlocks P) : Type 0 where
  pub precedence : IsOfBlocks d.precedence
  pub writers : (b : ℕ) (p : P) → IsTrue (d.writes b p) → b < d.precedence.count

-- a run changes only what its block may write, and what it leaves there hangs only on what the block touches
pub record IsLocal {P : Type 0} (d : UpdateBlocks P) : Type 0 where
  pub changes : (b : ℕ) (v : Valuation P) (p : P) → IsFalse (d.writes b p) → d.run b v p ≡ v p
  pub depends : (b : ℕ) (v w : Valuation P) → ((q : P) → IsTrue (touches d b q) → v q ≡ w q) →
      (p : P) → IsTrue (d.writes b p) → d.run b v p ≡ d.run b w p

-- no block comes before itself, and of two blocks that touch one place, of which one writes it, one precedes the other
pub record IsOrdered {P : Type 0} (d : UpdateBlocks P) : Type 0 where
  pub no_loop : IsAcyclic d.precedence
  pub pairs : (a b : ℕ) (p : P) → ¬ (a ≡ b) → a < d.precedence.count → b < d.precedence.count →
      IsTrue (d.writes a p) → IsTrue (touches d b p) →
      IsTrue (precedes d.precedence a b) ⊎ IsTrue (precedes d.precedence b a)
