use Rattle.std.proofs.Common.{◌≡◌, drop}
use Rattle.std.specs.List.{list_all}
use Rattle.pm_types.specs.Targets.{is_whole}
use Rattle.pm_types.proofs.targets.are_whole.Given as goal

abbrev pub invariant-loop-reference : goal.invariant-loop-reference
invariant-loop-reference l = list_all is_whole (drop l.reference-index l.references) ≡ list_all is_whole l.references
