use Rattle.std.proofs.Common.{◌≡◌, ◌+◌, drop}
use Rattle.pm_elab.specs.Files.{width_of_fields}
use Rattle.pm_class.proofs.bitstruct.width_of_fields.Given as goal

abbrev pub invariant-loop-field : goal.invariant-loop-field
invariant-loop-field l = l.width + width_of_fields (drop l.field-index l.fields) ≡ width_of_fields l.fields
