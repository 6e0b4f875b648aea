use Rattle.std.proofs.Common.{◌≡◌, drop}
use Rattle.pm_job.specs.Form.{targets_differ}
use Rattle.pm_job.proofs.soundness.targets_differ.Given as goal

abbrev pub invariant-loop-index : goal.invariant-loop-index
invariant-loop-index l = targets_differ (drop l.index l.blocks) ≡ targets_differ l.blocks
