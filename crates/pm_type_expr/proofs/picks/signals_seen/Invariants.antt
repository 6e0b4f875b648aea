use Rattle.std.proofs.Common.{◌≡◌, [], drop}
use Rattle.pm_typing.specs.Picks.{signals_seen}
use Rattle.pm_type_expr.proofs.picks.signals_seen.Given as goal

abbrev pub invariant-loop-value : goal.invariant-loop-value
invariant-loop-value l =
    signals_seen l.line l.whose l.references (drop l.value-index l.values) ≡ signals_seen l.line l.whose [] l.values
