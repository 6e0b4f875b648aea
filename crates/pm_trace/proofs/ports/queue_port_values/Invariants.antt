use Rattle.std.proofs.Common.{◌≤◌, drop, map}
use Rattle.pm_block.specs.Signals.{signal_word}
use Rattle.pm_block.specs.Stored.{at_of}
use Rattle.pm_design.specs.Layout.{layout_of}
use Rattle.pm_trace.specs.Ports.{port_words}
use Rattle.pm_trace.specs.Trace.{values_text}
use Rattle.pm_trace.proofs.Columns.{Queued}
use Rattle.pm_trace.proofs.ports.queue_port_values.Given as goal

-- the values so far were queued
abbrev pub invariant-loop-number : goal.invariant-loop-number
invariant-loop-number g l = record {
  done : Queued (g.K.Sink.held l.fn.sink) (g.K.Sink.held l.sink) l.fn.buffer l.buffer
      (values_text (map (signal_word (layout_of l.plan) (at_of l.values.bits)) (drop l.number-index l.number-items)))
      (values_text (port_words l.plan (at_of l.values.bits)));
  later : g.K.Sink.faults l.fn.sink ≤ g.K.Sink.faults l.sink;
}
