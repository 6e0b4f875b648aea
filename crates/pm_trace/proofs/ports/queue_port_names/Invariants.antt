use Rattle.std.proofs.Common.{◌≤◌, drop, map}
use Rattle.pm_design.specs.Ports.{top_signal}
use Rattle.pm_trace.specs.Ports.{port_names}
use Rattle.pm_trace.specs.Trace.{names_text}
use Rattle.pm_trace.proofs.Columns.{Queued}
use Rattle.pm_trace.proofs.ports.queue_port_names.Given as goal

-- the names so far were queued
abbrev pub invariant-loop-number : goal.invariant-loop-number
invariant-loop-number g l = record {
  done : Queued (g.K.Sink.held l.fn.sink) (g.K.Sink.held l.sink) l.fn.buffer l.buffer
      (names_text (map (λ n. (top_signal l.plan n).name) (drop l.number-index l.number-items))) (names_text (port_names l.plan));
  later : g.K.Sink.faults l.fn.sink ≤ g.K.Sink.faults l.sink;
}
