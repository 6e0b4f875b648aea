use Rattle.std.proofs.Common.{◌≤◌}
use Rattle.pm_trace.specs.Trace.{hex_digits}
use Rattle.pm_trace.proofs.Columns.{Queued}
use Rattle.pm_trace.proofs.trace_text.queue_hex.Given as goal

-- the digits so far were queued
abbrev pub invariant-loop-left : goal.invariant-loop-left
invariant-loop-left g l = record {
  done : Queued (g.K.Sink.held l.fn.sink) (g.K.Sink.held l.sink) l.fn.buffer l.buffer (hex_digits l.left l.number)
      (hex_digits l.count l.number);
  few : l.left ≤ l.count;
  later : g.K.Sink.faults l.fn.sink ≤ g.K.Sink.faults l.sink;
}

abbrev pub decreases-loop-left : goal.decreases-loop-left
decreases-loop-left g l = l.left
