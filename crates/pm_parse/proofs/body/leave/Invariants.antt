use Rattle.std.proofs.Common.{◌≡◌, length}
use Rattle.pm_parse.specs.OpenBodies.{leave}
use Rattle.pm_parse.proofs.body.leave.Given as goal

abbrev pub invariant-loop-open_bodies : goal.invariant-loop-open_bodies
invariant-loop-open_bodies l = leave l.column l.open_bodies ≡ leave l.column l.fn.open_bodies

abbrev pub decreases-loop-open_bodies : goal.decreases-loop-open_bodies
decreases-loop-open_bodies l = length l.open_bodies
