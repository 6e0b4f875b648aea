use Rattle.std.proofs.Common.{◌≤◌, drop}
use Rattle.pm_trace.specs.Trace.{names_text}
use Rattle.pm_trace.proofs.Columns.{Queued}
use Rattle.pm_trace.proofs.trace_text.queue_names.Given as goal

-- the names so far were queued
abbrev pub invariant-loop-name : goal.invariant-loop-name
invariant-loop-name g l = record {
  done : Queued (g.K.Sink.held l.fn.sink) (g.K.Sink.held l.sink) l.fn.buffer l.buffer
      (names_text (drop l.name-index l.names)) (names_text l.names);
  later : g.K.Sink.faults l.fn.sink ≤ g.K.Sink.faults l.sink;
}
