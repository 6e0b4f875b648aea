use Rattle.std.proofs.Common.{◌≡◌, ◌∙◌, ◌++◌, true, rules, ap, [], ◌∷◌, List, ℕ}
use Rattle.pm_io.proofs.Waiting.{queues_on, queues_in_longer}
use Rattle.pm_job.specs.Trace.{is_port, hex_of, hex_digits}
use Rattle.pm_job.specs.declared.trace_text.TheConstants.{BLANK}
use Rattle.pm_job.proofs.Columns.{port_value-port}
use Rattle.pm_job.proofs.trace_text.queue_value.Goals as goal

pub returns-clause-text : goal.returns-clause-text
returns-clause-text g c =
    let shown : is_port c.args.signal.now.role ≡ true = search rules in
    queues_in_longer (g.K.Sink.held c.args.sink.now) (g.K.Sink.held c.put.new.sink) c.args.buffer.now c.put.new.self c.put.new.self
    (BLANK ∷ []) (hex_of c.args.value) _ (port_value-port c.args.signal.now c.args.value shown) (search rules)

pub returns-2-clause-text : goal.returns-2-clause-text
returns-2-clause-text g c =
    let shown : is_port c.args.signal.now.role ≡ true = search rules in
    let digits : hex_of c.args.value ≡ hex_digits c.div_ceil.result c.value.result = search rules in
    queues_on (g.K.Sink.held c.args.sink.now) (g.K.Sink.held c.put.new.sink) (g.K.Sink.held c.queue_hex.new.sink)
    c.args.buffer.now c.put.new.self c.queue_hex.new.buffer (BLANK ∷ []) (hex_digits c.div_ceil.result c.value.result) _ c.queue_hex.result
    (port_value-port c.args.signal.now c.args.value shown ∙ ap (λ (text : List ℕ). (BLANK ∷ []) ++ text) digits)
    (search rules) c.queue_hex.ensures.text
