-- Two update blocks: the first writes place 0, and the second copies it to place 1.
use Rattle.std.specs.Prelude.{ℕ, zero, suc, List, [], ◌∷◌, ◌&&◌, ◌||◌, eqb, cond}
use Rattle.pm_bits.specs.Word.{Word}
use Rattle.pm_cons.specs.Precedence.{Precedence}
use Rattle.pm_cons.specs.UpdateBlocks.{UpdateBlocks, Valuation}

-- block 0 comes before block 1
abbrev pub precedence : Precedence
precedence = record { count = 2; before = λ a b. eqb a 0 && eqb b 1 }

-- a bit of 1
abbrev pub one : List Word
one = record { width = 1; value = 1 } ∷ []

-- other words at one place
abbrev pub put : ℕ → List Word → Valuation ℕ → Valuation ℕ
put place words v p = cond (eqb place p) words (v p)

-- block 0 writes 1, and block 1 copies
abbrev pub run : ℕ → Valuation ℕ → Valuation ℕ
run zero v = put 0 one v
run (suc zero) v = put 1 (v 0) v
run (suc (suc b)) v = v

-- the blocks with what they read and write
abbrev pub blocks : UpdateBlocks ℕ
blocks = record {
  precedence = precedence;
  run = run;
  reads = λ b p. eqb b 1 && eqb p 0;
  writes = λ b p. (eqb b 0 && eqb p 0) || (eqb b 1 && eqb p 1);
}

-- two blocks that come before each other
abbrev pub loop : Precedence
loop = record { count = 2; before = λ a b. (eqb a 0 && eqb b 1) || (eqb a 1 && eqb b 0) }

-- every place is empty
abbrev pub start : Valuation ℕ
start p = []
