use Rattle.std.proofs.Common.{◌≡◌, ◌-◌}
use Rattle.std.specs.Prelude.{find}
use Rattle.std.specs.List.{range_with_len}
use Rattle.pm_elab.specs.Sites.{is_type_name, named_width}
use Rattle.pm_type_expr.proofs.names.named_width.Given as goal

abbrev pub invariant-loop-width : goal.invariant-loop-width
invariant-loop-width l = find (is_type_name l.name) (range_with_len l.width (129 - l.width)) ≡ named_width l.name
