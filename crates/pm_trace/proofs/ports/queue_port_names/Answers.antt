use Rattle.std.proofs.Common.{rules, ◌∙◌, ◌+◌, ◌++◌, arith, ap, sym, drop, map, List, ℕ}
use Rattle.pm_design.specs.Ports.{top_signal}
use Rattle.pm_trace.specs.Ports.{port_names}
use Rattle.pm_trace.specs.Trace.{name_text, names_text}
use Rattle.pm_trace.proofs.Columns.{queued_more, queued_failed}
use Rattle.pm_trace.proofs.PlanPorts.{port_names-drop}
use Rattle.pm_trace.proofs.ports.queue_port_names.Goals as goal

pub returns-in-loop-number-clause-text : goal.returns-in-loop-number-clause-text
returns-in-loop-number-clause-text g c =
    let name : ℕ → List ℕ = λ n. (top_signal c.args.plan.now n).name in
    let ports = c.as_slice-number-items.result.now in
    queued_failed (g.K.Sink.held c.args.sink.now) (g.K.Sink.held c.loop-number.sink) (g.K.Sink.held c.queue_name.new.sink)
    c.args.buffer.now c.loop-number.buffer c.queue_name.new.buffer (name_text c.name_of.result.now)
    (names_text (map name (drop c.loop-number.number-index ports)))
    (names_text (map name (drop (c.loop-number.number-index + 1) ports))) (names_text (port_names c.args.plan.now))
    c.loop-number.invariant.done
    (port_names-drop name ports c.loop-number.number-index c.loop-number-test.true
    ∙ ap (λ (s : List ℕ). name_text s ++ names_text (map name (drop (c.loop-number.number-index + 1) ports))) (sym c.name_of.ensures)) (search rules)

pub loop-number-preserved : goal.loop-number-preserved
loop-number-preserved g c =
    let name : ℕ → List ℕ = λ n. (top_signal c.args.plan.now n).name in
    let ports = c.as_slice-number-items.result.now in
    record {
      done = queued_more (g.K.Sink.held c.args.sink.now) (g.K.Sink.held c.loop-number.sink)
          (g.K.Sink.held c.queue_name.new.sink)
          c.args.buffer.now c.loop-number.buffer c.queue_name.new.buffer (name_text c.name_of.result.now)
          (names_text (map name (drop c.loop-number.number-index ports)))
          (names_text (map name (drop (c.loop-number.number-index + 1) ports))) (names_text (port_names c.args.plan.now))
          c.loop-number.invariant.done
          (port_names-drop name ports c.loop-number.number-index c.loop-number-test.true
          ∙ ap (λ (s : List ℕ). name_text s ++ names_text (map name (drop (c.loop-number.number-index + 1) ports))) (sym c.name_of.ensures)) (search rules);
      later = omega (arith, c.queue_name.ensures.cause.later, c.loop-number.invariant.later);
    }
