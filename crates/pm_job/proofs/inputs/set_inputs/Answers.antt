use Rattle.std.proofs.Common.{◌≡◌, ◌∙◌, ◌+◌, ◌++◌, true, false, List, [], take, drop, refl, ap, sym, set}
use Rattle.std.proofs.Math.ListN.{drop_of_length-le}
use Rattle.std.proofs.lemmas.List.{take-append-drop}
use Rattle.pm_design.specs.declared.signal.Signal.{Signal}
use Rattle.pm_job.specs.Sound.{widths_of}
use Rattle.pm_job.specs.Trace.{inputs_of, is_input, with_inputs}
use Rattle.pm_job.proofs.RowValues.{IsPutTo, inputs_of-input, put_to_input, put_to_other, row_has_next}
use Rattle.pm_job.proofs.inputs.set_inputs.Goals as goal
use Rattle.pm_job.proofs.inputs.set_inputs.Goals.{then-is_input, else-is_input}

pub loop-index-preserved : goal.loop-index-preserved
loop-index-preserved c =
    let signals = c.args.signals.now in
    elim c.if-is_input.branch [
      | then-is_input w ↦
          let driven : is_input c.index-signals-index.result.role ≡ true = sym c.is_input.ensures ∙ w.if-is_input.true in
          let put : IsPutTo signals c.args.values.now c.args.row.now (c.loop-index.index + 1) (c.loop-index.next + 1) (set c.loop-index.values c.loop-index.index w.index-row-next.result) =
          put_to_input signals c.args.values.now c.args.row.now c.loop-index.index c.loop-index.next c.loop-index.values c.index-signals-index.result
          w.index-row-next.result c.loop-index.invariant c.loop-index-test.true c.index-signals-index.is driven w.index-row-next.is in
          rw (w.next-is, w.values-is) put
      | else-is_input w ↦
          let inner : is_input c.index-signals-index.result.role ≡ false = sym c.is_input.ensures ∙ w.if-is_input.false in
          let put : IsPutTo signals c.args.values.now c.args.row.now (c.loop-index.index + 1) c.loop-index.next c.loop-index.values =
          put_to_other signals c.args.values.now c.args.row.now c.loop-index.index c.loop-index.next c.loop-index.values c.index-signals-index.result
          c.loop-index.invariant c.loop-index-test.true c.index-signals-index.is inner in
          rw (w.next-is, w.values-is) put
    ]

pub loop-index-init : goal.loop-index-init
loop-index-init c = record { done = refl; rest = c.requires.row; widths = c.requires.widths }

pub bounds-row-next : goal.bounds-row-next
bounds-row-next c =
    let signals = c.args.signals.now in
    let signal = c.index-signals-index.result in
    let driven : is_input signal.role ≡ true = sym c.is_input.ensures ∙ c.if-is_input.true in
    let rest = widths_of (inputs_of (drop (c.loop-index.index + 1) signals)) in
    (row_has_next c.args.row.now c.loop-index.next signal.width rest
    (c.loop-index.invariant.rest ∙ ap widths_of (inputs_of-input signals c.loop-index.index signal c.loop-index-test.true c.index-signals-index.is driven))).0

pub returns : goal.returns
returns c =
    let index = c.loop-index.index in
    let values = c.loop-index.values in
    let none : drop index c.args.signals.now ≡ [] = drop_of_length-le c.args.signals.now {i = index} c.loop-index-test.false in
    record {
      values = sym (take-append-drop index values)
          ∙ (ap (λ (signals : List Signal). take index values ++ with_inputs signals (drop index values) (drop c.loop-index.next c.args.row.now)) (sym none) ∙ c.loop-index.invariant.done);
      widths = c.loop-index.invariant.widths ∙ sym c.requires.widths;
    }
