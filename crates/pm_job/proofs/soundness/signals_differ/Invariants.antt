use Rattle.std.proofs.Common.{◌≡◌, drop}
use Rattle.pm_job.specs.Form.{signals_differ}
use Rattle.pm_job.proofs.soundness.signals_differ.Given as goal

abbrev pub invariant-loop-index : goal.invariant-loop-index
invariant-loop-index l = signals_differ (drop l.index l.signals) ≡ signals_differ l.signals
