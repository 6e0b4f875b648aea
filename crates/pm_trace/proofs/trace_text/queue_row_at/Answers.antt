use Rattle.std.proofs.Common.{rules, refl, [], ◌∷◌}
use Rattle.pm_io.specs.declared.lines.TheConstants.{LF}
use Rattle.pm_trace.proofs.Columns.{line_at_first, line_at_second, line_at_third}
use Rattle.pm_trace.specs.Trace.{row_text, start_text, values_text}
use Rattle.pm_trace.proofs.trace_text.queue_row_at.Goals as goal

pub returns-clause-text : goal.returns-clause-text
returns-clause-text g c =
    line_at_first (g.K.Sink.held c.args.sink.now)
    (g.K.Sink.held c.queue_start.new.sink) c.args.buffer.now c.queue_start.new.buffer
    (start_text c.args.cycle c.args.reset) (values_text c.args.values.now) (LF ∷ [])
    (row_text c.args.cycle c.args.reset c.args.values.now) refl (search rules)

pub returns-2-clause-text : goal.returns-2-clause-text
returns-2-clause-text g c =
    line_at_second (g.K.Sink.held c.args.sink.now) (g.K.Sink.held c.queue_start.new.sink)
    (g.K.Sink.held c.queue_values.new.sink)
    c.args.buffer.now c.queue_start.new.buffer c.queue_values.new.buffer (start_text c.args.cycle c.args.reset)
    (values_text c.args.values.now) (LF ∷ []) (row_text c.args.cycle c.args.reset c.args.values.now)
    refl (search rules) (search rules)

pub returns-3-clause-text : goal.returns-3-clause-text
returns-3-clause-text g c =
    line_at_third (g.K.Sink.held c.args.sink.now) (g.K.Sink.held c.queue_start.new.sink)
    (g.K.Sink.held c.queue_values.new.sink)
    (g.K.Sink.held c.put.new.sink) c.args.buffer.now c.queue_start.new.buffer c.queue_values.new.buffer c.put.new.self
    (start_text c.args.cycle c.args.reset) (values_text c.args.values.now) (LF ∷ [])
    (row_text c.args.cycle c.args.reset c.args.values.now) c.put.result
    refl (search rules) (search rules) c.put.ensures.bytes
