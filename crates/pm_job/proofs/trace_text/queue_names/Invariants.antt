use Rattle.std.proofs.Common.{◌≤◌, drop}
use Rattle.pm_job.specs.Trace.{port_names}
use Rattle.pm_job.proofs.Columns.{Queued}
use Rattle.pm_job.proofs.trace_text.queue_names.Given as goal

-- the names so far were queued
abbrev pub invariant-loop-signal : goal.invariant-loop-signal
invariant-loop-signal g l = record {
  done : Queued (g.K.Sink.held l.fn.sink) (g.K.Sink.held l.sink) l.fn.buffer l.buffer (port_names (drop l.signal-index l.signals)) (port_names l.signals);
  later : g.K.Sink.faults l.fn.sink ≤ g.K.Sink.faults l.sink;
}
