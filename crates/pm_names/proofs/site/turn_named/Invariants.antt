use Rattle.std.proofs.Common.{◌≡◌, drop}
use Rattle.pm_elab.specs.Sites.{turn_named}
use Rattle.pm_names.proofs.site.turn_named.Given as goal

abbrev pub invariant-loop-turn : goal.invariant-loop-turn
invariant-loop-turn l = turn_named (drop l.turn-index l.turns) l.name ≡ turn_named l.turns l.name
