use Rattle.std.proofs.Common.{rules, ◌+◌, arith, drop}
use Rattle.pm_trace.specs.Trace.{value_text, values_text}
use Rattle.pm_trace.proofs.Columns.{queued_more, queued_failed, values_text-drop}
use Rattle.pm_trace.proofs.trace_text.queue_values.Goals as goal

pub returns-in-loop-value-clause-text : goal.returns-in-loop-value-clause-text
returns-in-loop-value-clause-text g c =
    queued_failed (g.K.Sink.held c.args.sink.now) (g.K.Sink.held c.loop-value.sink)
    (g.K.Sink.held c.queue_value.new.sink)
    c.args.buffer.now c.loop-value.buffer c.queue_value.new.buffer (value_text c.value-item.result)
    (values_text (drop c.loop-value.value-index c.args.values.now))
    (values_text (drop (c.loop-value.value-index + 1) c.args.values.now)) (values_text c.args.values.now)
    c.loop-value.invariant.done
    (values_text-drop c.args.values.now c.loop-value.value-index c.value-item.result
    c.loop-value-test.true c.value-item.is) (search rules)

pub loop-value-preserved : goal.loop-value-preserved
loop-value-preserved g c = record {
  done = queued_more (g.K.Sink.held c.args.sink.now) (g.K.Sink.held c.loop-value.sink)
      (g.K.Sink.held c.queue_value.new.sink)
      c.args.buffer.now c.loop-value.buffer c.queue_value.new.buffer (value_text c.value-item.result)
      (values_text (drop c.loop-value.value-index c.args.values.now))
      (values_text (drop (c.loop-value.value-index + 1) c.args.values.now)) (values_text c.args.values.now)
      c.loop-value.invariant.done
      (values_text-drop c.args.values.now c.loop-value.value-index c.value-item.result
      c.loop-value-test.true c.value-item.is) (search rules);
  later = omega (arith, c.queue_value.ensures.cause.later, c.loop-value.invariant.later);
}
