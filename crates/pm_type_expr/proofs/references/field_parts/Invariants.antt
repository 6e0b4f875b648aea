use Rattle.std.proofs.Common.{◌≡◌, map, take}
use Rattle.pm_elab.specs.Attributes.{field_part}
use Rattle.pm_type_expr.proofs.references.field_parts.Given as goal

abbrev pub invariant-loop-element : goal.invariant-loop-element
invariant-loop-element l = l.parts ≡ map (λ r. field_part r l.field) (take l.element-index l.elements)
