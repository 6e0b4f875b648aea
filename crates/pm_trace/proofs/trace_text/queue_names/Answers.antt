use Rattle.std.proofs.Common.{rules, ◌+◌, arith, drop}
use Rattle.pm_trace.specs.Trace.{name_text, names_text}
use Rattle.pm_trace.proofs.Columns.{queued_more, queued_failed, names_text-drop}
use Rattle.pm_trace.proofs.trace_text.queue_names.Goals as goal

pub returns-in-loop-name-clause-text : goal.returns-in-loop-name-clause-text
returns-in-loop-name-clause-text g c =
    queued_failed (g.K.Sink.held c.args.sink.now) (g.K.Sink.held c.loop-name.sink) (g.K.Sink.held c.queue_name.new.sink)
    c.args.buffer.now c.loop-name.buffer c.queue_name.new.buffer (name_text c.name-item.result)
    (names_text (drop c.loop-name.name-index c.args.names.now))
    (names_text (drop (c.loop-name.name-index + 1) c.args.names.now)) (names_text c.args.names.now)
    c.loop-name.invariant.done
    (names_text-drop c.args.names.now c.loop-name.name-index c.name-item.result
    c.loop-name-test.true c.name-item.is) (search rules)

pub loop-name-preserved : goal.loop-name-preserved
loop-name-preserved g c = record {
  done = queued_more (g.K.Sink.held c.args.sink.now) (g.K.Sink.held c.loop-name.sink)
      (g.K.Sink.held c.queue_name.new.sink)
      c.args.buffer.now c.loop-name.buffer c.queue_name.new.buffer (name_text c.name-item.result)
      (names_text (drop c.loop-name.name-index c.args.names.now))
      (names_text (drop (c.loop-name.name-index + 1) c.args.names.now)) (names_text c.args.names.now)
      c.loop-name.invariant.done
      (names_text-drop c.args.names.now c.loop-name.name-index c.name-item.result
      c.loop-name-test.true c.name-item.is) (search rules);
  later = omega (arith, c.queue_name.ensures.cause.later, c.loop-name.invariant.later);
}
