use Rattle.std.proofs.Common.{rules, ◌≡◌, refl, ap, [], ◌∷◌, List, ℕ}
use Rattle.pm_io.proofs.Waiting.{queues_on, queues_in_longer}
use Rattle.pm_trace.specs.Trace.{hex_of, hex_digits}
use Rattle.pm_trace.proofs.trace_text.queue_value.Goals as goal

pub returns-clause-text : goal.returns-clause-text
returns-clause-text g c =
    queues_in_longer (g.K.Sink.held c.args.sink.now)
    (g.K.Sink.held c.put.new.sink) c.args.buffer.now c.put.new.self c.put.new.self
    (32 ∷ []) (hex_of c.args.value) _ refl (search rules)

pub returns-2-clause-text : goal.returns-2-clause-text
returns-2-clause-text g c =
    let digits : hex_of c.args.value ≡ hex_digits c.div_ceil.result c.value.result = search rules in
    queues_on (g.K.Sink.held c.args.sink.now) (g.K.Sink.held c.put.new.sink) (g.K.Sink.held c.queue_hex.new.sink)
    c.args.buffer.now c.put.new.self c.queue_hex.new.buffer (32 ∷ [])
    (hex_digits c.div_ceil.result c.value.result) _ c.queue_hex.result
    (ap (λ (text : List ℕ). 32 ∷ text) digits)
    (search rules) c.queue_hex.ensures.text
