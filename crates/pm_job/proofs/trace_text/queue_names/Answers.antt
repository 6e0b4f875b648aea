use Rattle.std.proofs.Common.{rules, ◌+◌, arith, drop}
use Rattle.pm_job.specs.Trace.{port_name, port_names}
use Rattle.pm_job.proofs.Columns.{queued_more, queued_failed, port_names-drop}
use Rattle.pm_job.proofs.trace_text.queue_names.Goals as goal

pub returns-in-loop-signal-clause-text : goal.returns-in-loop-signal-clause-text
returns-in-loop-signal-clause-text g c =
    queued_failed (g.K.Sink.held c.args.sink.now) (g.K.Sink.held c.loop-signal.sink) (g.K.Sink.held c.queue_name.new.sink)
    c.args.buffer.now c.loop-signal.buffer c.queue_name.new.buffer (port_name c.signal-item.result) (port_names (drop c.loop-signal.signal-index c.args.signals.now)) (port_names (drop (c.loop-signal.signal-index + 1) c.args.signals.now)) (port_names c.args.signals.now)
    c.loop-signal.invariant.done (port_names-drop c.args.signals.now c.loop-signal.signal-index c.signal-item.result c.loop-signal-test.true c.signal-item.is) (search rules)

pub loop-signal-preserved : goal.loop-signal-preserved
loop-signal-preserved g c = record {
  done = queued_more (g.K.Sink.held c.args.sink.now) (g.K.Sink.held c.loop-signal.sink) (g.K.Sink.held c.queue_name.new.sink)
      c.args.buffer.now c.loop-signal.buffer c.queue_name.new.buffer (port_name c.signal-item.result) (port_names (drop c.loop-signal.signal-index c.args.signals.now)) (port_names (drop (c.loop-signal.signal-index + 1) c.args.signals.now)) (port_names c.args.signals.now)
      c.loop-signal.invariant.done (port_names-drop c.args.signals.now c.loop-signal.signal-index c.signal-item.result c.loop-signal-test.true c.signal-item.is) (search rules);
  later = omega (arith, c.queue_name.ensures.cause.later, c.loop-signal.invariant.later);
}
