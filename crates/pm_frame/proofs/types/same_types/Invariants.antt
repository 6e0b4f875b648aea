use Rattle.std.proofs.Common.{◌≡◌, drop}
use Rattle.pm_elab.specs.Connections.{same_types}
use Rattle.pm_frame.proofs.types.same_types.Given as goal

abbrev pub invariant-loop-index : goal.invariant-loop-index
invariant-loop-index l = same_types (drop l.index l.a) (drop l.index l.b) ≡ same_types l.a l.b
