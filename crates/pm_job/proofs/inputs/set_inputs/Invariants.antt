use Rattle.pm_job.proofs.RowValues.{IsPutTo}
use Rattle.pm_job.proofs.inputs.set_inputs.Given as goal

-- the inputs of the signals so far have their values
abbrev pub invariant-loop-index : goal.invariant-loop-index
invariant-loop-index l = IsPutTo l.signals l.fn.values l.row l.index l.next l.values
