use Rattle.std.proofs.Common.{◌≡◌, ◌++◌, ◌-◌}
use Rattle.pm_typing.specs.Picks.{bits_from}
use Rattle.pm_type_expr.proofs.picks.bit_parts.Given as goal

abbrev pub invariant-loop-index : goal.invariant-loop-index
invariant-loop-index l =
    l.parts ++ bits_from l.reference l.index (l.reference.part.width - l.index) ≡ bits_from l.reference 0 l.reference.part.width
