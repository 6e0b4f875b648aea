use Rattle.std.proofs.Common.{◌≡◌, drop}
use Rattle.std.specs.Prelude.{None}
use Rattle.pm_elab.specs.Captures.{first_capture}
use Rattle.pm_frame.proofs.capture.first_capture.Given as goal

abbrev pub invariant-loop-body : goal.invariant-loop-body
invariant-loop-body l = first_capture l.locals l.best (drop l.body-index l.bodies) ≡ first_capture l.locals None l.bodies
