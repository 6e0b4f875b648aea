use Rattle.std.proofs.Common.{rules, refl, [], ◌∷◌}
use Rattle.std.specs.Prelude.{codes}
use Rattle.pm_io.specs.declared.lines.TheConstants.{LF}
use Rattle.pm_trace.proofs.Columns.{line_at_first, line_at_second, line_at_third}
use Rattle.pm_trace.specs.Trace.{head_text, names_text}
use Rattle.pm_trace.proofs.trace_text.queue_head_at.Goals as goal

pub returns-clause-text : goal.returns-clause-text
returns-clause-text g c =
    line_at_first (g.K.Sink.held c.args.sink.now) (g.K.Sink.held c.put.new.sink) c.args.buffer.now c.put.new.self
    (codes "cycle reset") (names_text c.args.names.now) (LF ∷ []) (head_text c.args.names.now) refl (search rules)

pub returns-2-clause-text : goal.returns-2-clause-text
returns-2-clause-text g c =
    line_at_second (g.K.Sink.held c.args.sink.now) (g.K.Sink.held c.put.new.sink) (g.K.Sink.held c.queue_names.new.sink)
    c.args.buffer.now c.put.new.self c.queue_names.new.buffer (codes "cycle reset") (names_text c.args.names.now)
    (LF ∷ []) (head_text c.args.names.now) refl (search rules) (search rules)

pub returns-3-clause-text : goal.returns-3-clause-text
returns-3-clause-text g c =
    line_at_third (g.K.Sink.held c.args.sink.now) (g.K.Sink.held c.put.new.sink) (g.K.Sink.held c.queue_names.new.sink)
    (g.K.Sink.held c.put-2.new.sink) c.args.buffer.now c.put.new.self c.queue_names.new.buffer c.put-2.new.self
    (codes "cycle reset") (names_text c.args.names.now) (LF ∷ []) (head_text c.args.names.now) c.put-2.result
    refl (search rules) (search rules) c.put-2.ensures.bytes
