use Rattle.std.proofs.Common.{rules, ◌∙◌, ◌+◌, ◌++◌, arith, ap, sym, drop, map, ℕ}
use Rattle.pm_bits.specs.Word.{Word}
use Rattle.pm_block.specs.Signals.{signal_word}
use Rattle.pm_block.specs.Stored.{at_of}
use Rattle.std.specs.Prelude.{slice_index_or}
use Rattle.pm_design.specs.Layout.{Layout, layout_of}
use Rattle.pm_trace.specs.Ports.{port_words}
use Rattle.pm_trace.specs.Trace.{value_text, values_text}
use Rattle.pm_trace.proofs.Columns.{queued_more, queued_failed}
use Rattle.pm_trace.proofs.PlanPorts.{port_values-drop}
use Rattle.pm_trace.proofs.ports.queue_port_values.Goals as goal

pub returns-in-loop-number-clause-text : goal.returns-in-loop-number-clause-text
returns-in-loop-number-clause-text g c =
    let word : ℕ → Word = signal_word (layout_of c.args.plan.now) (at_of c.args.values.now.bits) in
    let ports = c.as_slice-number-items.result.now in
    let same = ap (λ (layout : Layout). signal_word layout (at_of c.args.values.now.bits) (slice_index_or ports c.loop-number.number-index 0)) c.requires.layout in
    queued_failed (g.K.Sink.held c.args.sink.now) (g.K.Sink.held c.loop-number.sink) (g.K.Sink.held c.queue_value.new.sink)
    c.args.buffer.now c.loop-number.buffer c.queue_value.new.buffer (value_text c.signal.result)
    (values_text (map word (drop c.loop-number.number-index ports)))
    (values_text (map word (drop (c.loop-number.number-index + 1) ports))) (values_text (port_words c.args.plan.now (at_of c.args.values.now.bits)))
    c.loop-number.invariant.done
    (port_values-drop word ports c.loop-number.number-index c.loop-number-test.true
    ∙ ap (λ (w : Word). value_text w ++ values_text (map word (drop (c.loop-number.number-index + 1) ports))) (sym (c.signal.ensures ∙ same))) (search rules)

pub loop-number-preserved : goal.loop-number-preserved
loop-number-preserved g c =
    let word : ℕ → Word = signal_word (layout_of c.args.plan.now) (at_of c.args.values.now.bits) in
    let ports = c.as_slice-number-items.result.now in
    let same = ap (λ (layout : Layout). signal_word layout (at_of c.args.values.now.bits) (slice_index_or ports c.loop-number.number-index 0)) c.requires.layout in
    record {
      done = queued_more (g.K.Sink.held c.args.sink.now) (g.K.Sink.held c.loop-number.sink)
          (g.K.Sink.held c.queue_value.new.sink)
          c.args.buffer.now c.loop-number.buffer c.queue_value.new.buffer (value_text c.signal.result)
          (values_text (map word (drop c.loop-number.number-index ports)))
          (values_text (map word (drop (c.loop-number.number-index + 1) ports))) (values_text (port_words c.args.plan.now (at_of c.args.values.now.bits)))
          c.loop-number.invariant.done
          (port_values-drop word ports c.loop-number.number-index c.loop-number-test.true
          ∙ ap (λ (w : Word). value_text w ++ values_text (map word (drop (c.loop-number.number-index + 1) ports))) (sym (c.signal.ensures ∙ same))) (search rules);
      later = omega (arith, c.queue_value.ensures.cause.later, c.loop-number.invariant.later);
    }
