-- A plan whose blocks are ordered.
use Rattle.std.specs.Prelude.{false}
use Rattle.pm_cons.specs.Precedence.{Precedence}

-- one block, and no edge
abbrev pub single : Precedence
single = record { count = 1; before = λ a b. false }
