use Rattle.std.proofs.Common.{rules, ◌+◌, arith, drop}
use Rattle.pm_job.specs.Trace.{port_value, port_values}
use Rattle.pm_job.proofs.Columns.{queued_more, queued_failed, port_values-drop}
use Rattle.pm_job.proofs.trace_text.queue_values.Goals as goal

pub returns-in-loop-index-clause-text : goal.returns-in-loop-index-clause-text
returns-in-loop-index-clause-text g c =
    queued_failed (g.K.Sink.held c.args.sink.now) (g.K.Sink.held c.loop-index.sink) (g.K.Sink.held c.queue_value.new.sink)
    c.args.buffer.now c.loop-index.buffer c.queue_value.new.buffer (port_value c.index-signals-index.result c.index-values-index.result) (port_values (drop c.loop-index.index c.args.signals.now) (drop c.loop-index.index c.args.values.now)) (port_values (drop (c.loop-index.index + 1) c.args.signals.now) (drop (c.loop-index.index + 1) c.args.values.now)) (port_values c.args.signals.now c.args.values.now)
    c.loop-index.invariant.done (port_values-drop c.args.signals.now c.args.values.now c.loop-index.index c.index-signals-index.result c.index-values-index.result c.loop-index-test.true (omega (arith, c.requires, c.loop-index-test.true)) c.index-signals-index.is c.index-values-index.is) (search rules)

pub loop-index-preserved : goal.loop-index-preserved
loop-index-preserved g c = record {
  done = queued_more (g.K.Sink.held c.args.sink.now) (g.K.Sink.held c.loop-index.sink) (g.K.Sink.held c.queue_value.new.sink)
      c.args.buffer.now c.loop-index.buffer c.queue_value.new.buffer (port_value c.index-signals-index.result c.index-values-index.result) (port_values (drop c.loop-index.index c.args.signals.now) (drop c.loop-index.index c.args.values.now)) (port_values (drop (c.loop-index.index + 1) c.args.signals.now) (drop (c.loop-index.index + 1) c.args.values.now)) (port_values c.args.signals.now c.args.values.now)
      c.loop-index.invariant.done (port_values-drop c.args.signals.now c.args.values.now c.loop-index.index c.index-signals-index.result c.index-values-index.result c.loop-index-test.true (omega (arith, c.requires, c.loop-index-test.true)) c.index-signals-index.is c.index-values-index.is) (search rules);
  later = omega (arith, c.queue_value.ensures.cause.later, c.loop-index.invariant.later);
}
