use Rattle.std.proofs.Common.{rules, ◌≡◌, ◌++◌, refl, ap, sym, [], ◌∷◌}
use Rattle.std.specs.Prelude.{codes}
use Rattle.pm_io.specs.declared.lines.TheConstants.{LF}
use Rattle.pm_job.proofs.Columns.{line_at_first, line_at_second, line_at_third}
use Rattle.pm_job.specs.Trace.{head_text, port_names}
use Rattle.pm_job.proofs.trace_text.queue_head.Goals as goal

pub returns-clause-text : goal.returns-clause-text
returns-clause-text g c =
    line_at_first (g.K.Sink.held c.args.sink.now) (g.K.Sink.held c.put.new.sink) c.args.buffer.now c.put.new.self (codes "cycle") (port_names c.args.component.now.signals) (LF ∷ []) (head_text c.args.component.now)
    (refl) (search rules)

pub returns-2-clause-text : goal.returns-2-clause-text
returns-2-clause-text g c =
    let is : head_text c.args.component.now ≡ ((codes "cycle") ++ port_names c.as_slice.result.now) ++ LF ∷ [] = ap (λ signals. (codes "cycle" ++ port_names signals) ++ LF ∷ []) (sym c.as_slice.ensures) in
    line_at_second (g.K.Sink.held c.args.sink.now) (g.K.Sink.held c.put.new.sink) (g.K.Sink.held c.queue_names.new.sink)
    c.args.buffer.now c.put.new.self c.queue_names.new.buffer (codes "cycle") (port_names c.as_slice.result.now) (LF ∷ []) (head_text c.args.component.now)
    is (search rules) (search rules)

pub returns-3-clause-text : goal.returns-3-clause-text
returns-3-clause-text g c =
    let is : head_text c.args.component.now ≡ ((codes "cycle") ++ port_names c.as_slice.result.now) ++ LF ∷ [] = ap (λ signals. (codes "cycle" ++ port_names signals) ++ LF ∷ []) (sym c.as_slice.ensures) in
    line_at_third (g.K.Sink.held c.args.sink.now) (g.K.Sink.held c.put.new.sink) (g.K.Sink.held c.queue_names.new.sink) (g.K.Sink.held c.put-2.new.sink)
    c.args.buffer.now c.put.new.self c.queue_names.new.buffer c.put-2.new.self (codes "cycle") (port_names c.as_slice.result.now) (LF ∷ []) (head_text c.args.component.now) c.put-2.result
    is (search rules) (search rules) c.put-2.ensures.bytes
