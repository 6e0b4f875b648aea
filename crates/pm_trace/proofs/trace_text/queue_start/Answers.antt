use Rattle.std.proofs.Common.{rules, ◌∙◌, ◌++◌, ap, ap₂, sym, [], ◌∷◌, List, ℕ}
use Rattle.pm_io.proofs.Waiting.{queues_on, queues_in_longer}
use Rattle.pm_trace.specs.Trace.{reset_digit}
use Rattle.pm_trace.proofs.trace_text.queue_start.Goals as goal

pub returns-clause-text : goal.returns-clause-text
returns-clause-text g c =
    queues_in_longer (g.K.Sink.held c.args.sink.now)
    (g.K.Sink.held c.put.new.sink) c.args.buffer.now c.put.new.self c.put.new.self
    c.as_bytes.result.now (32 ∷ reset_digit c.args.reset ∷ []) _
    (ap (λ (text : List ℕ). text ++ 32 ∷ reset_digit c.args.reset ∷ [])
    (sym (c.as_bytes.ensures.value ∙ c.format.ensures.text)))
    (search rules)

pub returns-2-clause-text : goal.returns-2-clause-text
returns-2-clause-text g c =
    queues_on (g.K.Sink.held c.args.sink.now) (g.K.Sink.held c.put.new.sink) (g.K.Sink.held c.put-2.new.sink)
    c.args.buffer.now c.put.new.self c.put-2.new.self c.as_bytes.result.now
    (32 ∷ c.reset_digit.result ∷ []) _ c.put-2.result
    (ap₂ (λ (text : List ℕ) (digit : ℕ). text ++ 32 ∷ digit ∷ [])
    (sym (c.as_bytes.ensures.value ∙ c.format.ensures.text)) (sym c.reset_digit.ensures))
    (search rules) c.put-2.ensures.bytes
