use Rattle.std.proofs.Common.{◌≡◌, map, take}
use Rattle.pm_typing.specs.Calls.{field_type}
use Rattle.pm_type_expr.proofs.calls.types_of.Given as goal

abbrev pub invariant-loop-field : goal.invariant-loop-field
invariant-loop-field l = l.types ≡ map field_type (take l.field-index l.fields)
