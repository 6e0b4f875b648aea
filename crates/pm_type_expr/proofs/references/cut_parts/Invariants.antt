use Rattle.std.proofs.Common.{◌≡◌, map, take}
use Rattle.pm_typing.specs.References.{cut_part}
use Rattle.pm_type_expr.proofs.references.cut_parts.Given as goal

abbrev pub invariant-loop-element : goal.invariant-loop-element
invariant-loop-element l = l.parts ≡ map (cut_part l.cut) (take l.element-index l.elements)
