use Rattle.std.proofs.Common.{◌≡◌, drop}
use Rattle.std.specs.List.{list_all}
use Rattle.pm_typing.specs.Operands.{may_read}
use Rattle.pm_type_expr.proofs.operands.may_read_all.Given as goal

abbrev pub invariant-loop-reference : goal.invariant-loop-reference
invariant-loop-reference l =
    list_all (may_read l.sort) (drop l.reference-index l.references) ≡ list_all (may_read l.sort) l.references
