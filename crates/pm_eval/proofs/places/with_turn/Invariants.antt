use Rattle.std.proofs.Common.{◌≡◌, ◌∷◌, ◌++◌, drop}
use Rattle.pm_eval.proofs.places.with_turn.Given as goal

abbrev pub invariant-loop-turn : goal.invariant-loop-turn
invariant-loop-turn l = l.all ++ drop l.turn-index l.turns ≡ record { name = l.name; value = l.value } ∷ l.turns
