use Rattle.std.proofs.Common.{◌≡◌, drop}
use Rattle.std.specs.List.{list_all}
use Rattle.pm_types.specs.Targets.{may_write}
use Rattle.pm_types.proofs.targets.may_write_all.Given as goal

abbrev pub invariant-loop-reference : goal.invariant-loop-reference
invariant-loop-reference l =
    list_all (may_write l.sort) (drop l.reference-index l.references) ≡ list_all (may_write l.sort) l.references
