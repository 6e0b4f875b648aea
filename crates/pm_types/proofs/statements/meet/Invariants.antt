use Rattle.std.proofs.Common.{◌≡◌, [], drop}
use Rattle.pm_types.specs.Statements.{meet_from}
use Rattle.pm_types.proofs.statements.meet.Given as goal

abbrev pub invariant-loop-place : goal.invariant-loop-place
invariant-loop-place l = meet_from l.bounds (drop l.place l.a) (drop l.place l.b) ≡ meet_from [] l.a l.b
