use Rattle.std.proofs.Common.{◌≡◌, drop}
use Rattle.pm_job.specs.Form.{names_differ}
use Rattle.pm_job.proofs.soundness.names_differ.Given as goal

abbrev pub invariant-loop-index : goal.invariant-loop-index
invariant-loop-index l = names_differ l.signals (drop l.index l.blocks) ≡ names_differ l.signals l.blocks
