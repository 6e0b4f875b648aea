use Rattle.std.proofs.Common.{◌≡◌, drop}
use Rattle.pm_job.specs.Form.{index_from}
use Rattle.pm_job.proofs.form_parts.index_of.Given as goal

abbrev pub invariant-loop-index : goal.invariant-loop-index
invariant-loop-index l = index_from l.index (drop l.index l.signals) l.name ≡ index_from 0 l.signals l.name
