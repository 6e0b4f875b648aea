use Rattle.std.proofs.Common.{◌≤◌, drop}
use Rattle.pm_trace.specs.Trace.{values_text}
use Rattle.pm_trace.proofs.Columns.{Queued}
use Rattle.pm_trace.proofs.trace_text.queue_values.Given as goal

-- the values so far were queued
abbrev pub invariant-loop-value : goal.invariant-loop-value
invariant-loop-value g l = record {
  done : Queued (g.K.Sink.held l.fn.sink) (g.K.Sink.held l.sink) l.fn.buffer l.buffer
      (values_text (drop l.value-index l.values)) (values_text l.values);
  later : g.K.Sink.faults l.fn.sink ≤ g.K.Sink.faults l.sink;
}
