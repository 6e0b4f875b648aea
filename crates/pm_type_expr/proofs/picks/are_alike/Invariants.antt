use Rattle.std.proofs.Common.{◌≡◌, drop}
use Rattle.std.specs.List.{list_all}
use Rattle.pm_typing.specs.Operands.{same_type}
use Rattle.pm_typing.specs.References.{type_of, element_type}
use Rattle.pm_type_expr.proofs.picks.are_alike.Given as goal

abbrev pub invariant-loop-reference : goal.invariant-loop-reference
invariant-loop-reference l =
    list_all (λ r. same_type (type_of r) (element_type l.references)) (drop l.reference-index l.references)
    ≡ list_all (λ r. same_type (type_of r) (element_type l.references)) l.references
