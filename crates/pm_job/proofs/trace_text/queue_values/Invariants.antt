use Rattle.std.proofs.Common.{◌≤◌, drop}
use Rattle.pm_job.specs.Trace.{port_values}
use Rattle.pm_job.proofs.Columns.{Queued}
use Rattle.pm_job.proofs.trace_text.queue_values.Given as goal

-- the values so far were queued
abbrev pub invariant-loop-index : goal.invariant-loop-index
invariant-loop-index g l = record {
  done : Queued (g.K.Sink.held l.fn.sink) (g.K.Sink.held l.sink) l.fn.buffer l.buffer (port_values (drop l.index l.signals) (drop l.index l.values)) (port_values l.signals l.values);
  later : g.K.Sink.faults l.fn.sink ≤ g.K.Sink.faults l.sink;
}
