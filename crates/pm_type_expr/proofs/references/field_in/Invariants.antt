use Rattle.std.proofs.Common.{◌≡◌, drop}
use Rattle.pm_elab.specs.Attributes.{field_in}
use Rattle.pm_type_expr.proofs.references.field_in.Given as goal

abbrev pub invariant-loop-field : goal.invariant-loop-field
invariant-loop-field l = field_in (drop l.field-index l.fields) l.name ≡ field_in l.fields l.name
