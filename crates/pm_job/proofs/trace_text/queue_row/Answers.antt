use Rattle.std.proofs.Common.{rules, ◌≡◌, ◌∙◌, ◌++◌, ap, ap₂, sym, [], ◌∷◌, List, ℕ}
use Rattle.pm_io.specs.declared.lines.TheConstants.{LF}
use Rattle.pm_job.proofs.Columns.{line_at_first, line_at_second, line_at_third}
use Rattle.pm_job.specs.Trace.{row_text, port_values}
use Rattle.pm_job.proofs.trace_text.queue_row.Goals as goal

pub returns-clause-text : goal.returns-clause-text
returns-clause-text g c =
    line_at_first (g.K.Sink.held c.args.sink.now) (g.K.Sink.held c.put.new.sink) c.args.buffer.now c.put.new.self c.as_bytes.result.now (port_values c.args.component.now.signals c.args.values.now) (LF ∷ []) (row_text c.args.component.now c.args.cycle c.args.values.now)
    (ap (λ (text : List ℕ). (text ++ port_values c.args.component.now.signals c.args.values.now) ++ LF ∷ []) (sym (c.as_bytes.ensures.value ∙ c.format.ensures.text))) (search rules)

pub returns-2-clause-text : goal.returns-2-clause-text
returns-2-clause-text g c =
    let is : row_text c.args.component.now c.args.cycle c.args.values.now ≡ (c.as_bytes.result.now ++ port_values c.as_slice.result.now c.args.values.now) ++ LF ∷ [] = ap₂ (λ (text more : List ℕ). (text ++ more) ++ LF ∷ []) (sym (c.as_bytes.ensures.value ∙ c.format.ensures.text)) (ap (λ signals. port_values signals c.args.values.now) (sym c.as_slice.ensures)) in
    line_at_second (g.K.Sink.held c.args.sink.now) (g.K.Sink.held c.put.new.sink) (g.K.Sink.held c.queue_values.new.sink)
    c.args.buffer.now c.put.new.self c.queue_values.new.buffer c.as_bytes.result.now (port_values c.as_slice.result.now c.args.values.now) (LF ∷ []) (row_text c.args.component.now c.args.cycle c.args.values.now)
    is (search rules) (search rules)

pub returns-3-clause-text : goal.returns-3-clause-text
returns-3-clause-text g c =
    let is : row_text c.args.component.now c.args.cycle c.args.values.now ≡ (c.as_bytes.result.now ++ port_values c.as_slice.result.now c.args.values.now) ++ LF ∷ [] = ap₂ (λ (text more : List ℕ). (text ++ more) ++ LF ∷ []) (sym (c.as_bytes.ensures.value ∙ c.format.ensures.text)) (ap (λ signals. port_values signals c.args.values.now) (sym c.as_slice.ensures)) in
    line_at_third (g.K.Sink.held c.args.sink.now) (g.K.Sink.held c.put.new.sink) (g.K.Sink.held c.queue_values.new.sink) (g.K.Sink.held c.put-2.new.sink)
    c.args.buffer.now c.put.new.self c.queue_values.new.buffer c.put-2.new.self c.as_bytes.result.now (port_values c.as_slice.result.now c.args.values.now) (LF ∷ []) (row_text c.args.component.now c.args.cycle c.args.values.now) c.put-2.result
    is (search rules) (search rules) c.put-2.ensures.bytes
