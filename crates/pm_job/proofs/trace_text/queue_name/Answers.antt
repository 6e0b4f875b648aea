use Rattle.std.proofs.Common.{◌≡◌, ◌∙◌, ◌++◌, true, rules, ap, sym, [], ◌∷◌, List, ℕ}
use Rattle.pm_io.proofs.Waiting.{queues_on, queues_in_longer}
use Rattle.pm_job.specs.Trace.{is_port}
use Rattle.pm_job.specs.declared.trace_text.TheConstants.{BLANK}
use Rattle.pm_job.proofs.Columns.{port_name-port}
use Rattle.pm_job.proofs.trace_text.queue_name.Goals as goal

pub returns-clause-text : goal.returns-clause-text
returns-clause-text g c =
    let shown : is_port c.args.signal.now.role ≡ true = search rules in
    queues_in_longer (g.K.Sink.held c.args.sink.now) (g.K.Sink.held c.put.new.sink) c.args.buffer.now c.put.new.self c.put.new.self
    (BLANK ∷ []) c.args.signal.now.name _ (port_name-port c.args.signal.now shown) (search rules)

pub returns-2-clause-text : goal.returns-2-clause-text
returns-2-clause-text g c =
    let shown : is_port c.args.signal.now.role ≡ true = search rules in
    queues_on (g.K.Sink.held c.args.sink.now) (g.K.Sink.held c.put.new.sink) (g.K.Sink.held c.put-2.new.sink)
    c.args.buffer.now c.put.new.self c.put-2.new.self (BLANK ∷ []) c.as_slice.result.now _ c.put-2.result
    (port_name-port c.args.signal.now shown ∙ ap (λ (name : List ℕ). (BLANK ∷ []) ++ name) (sym c.as_slice.ensures))
    (search rules) c.put-2.ensures.bytes
