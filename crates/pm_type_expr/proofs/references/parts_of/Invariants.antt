use Rattle.std.proofs.Common.{◌≡◌, map, take}
use Rattle.pm_type_expr.proofs.references.parts_of.Given as goal

abbrev pub invariant-loop-reference : goal.invariant-loop-reference
invariant-loop-reference l = l.parts ≡ map (λ r. r.part) (take l.reference-index l.references)
