use Rattle.std.proofs.Common.{rules, refl, ap, sym, [], ◌∷◌, List, ℕ}
use Rattle.pm_io.proofs.Waiting.{queues_on, queues_in_longer}
use Rattle.pm_trace.proofs.trace_text.queue_name.Goals as goal

pub returns-clause-text : goal.returns-clause-text
returns-clause-text g c =
    queues_in_longer (g.K.Sink.held c.args.sink.now)
    (g.K.Sink.held c.put.new.sink) c.args.buffer.now c.put.new.self c.put.new.self
    (32 ∷ []) c.args.name.now _ refl (search rules)

pub returns-2-clause-text : goal.returns-2-clause-text
returns-2-clause-text g c =
    queues_on (g.K.Sink.held c.args.sink.now) (g.K.Sink.held c.put.new.sink) (g.K.Sink.held c.put-2.new.sink)
    c.args.buffer.now c.put.new.self c.put-2.new.self (32 ∷ []) c.as_slice.result.now _ c.put-2.result
    (ap (λ (name : List ℕ). 32 ∷ name) (sym c.as_slice.ensures))
    (search rules) c.put-2.ensures.bytes
