use Rattle.std.proofs.Common.{◌≡◌, ◌++◌, ◌∷◌, [], ◌∙◌, true, false, ap, sym, drop}
use Rattle.pm_job.specs.Answers.{with_reset, zeros_of}
use Rattle.pm_job.specs.Sound.{widths_of}
use Rattle.pm_job.specs.Trace.{inputs_of, is_input}
use Rattle.pm_job.proofs.Zeros.{wide_from, resets_input, resets_other}
use Rattle.pm_job.proofs.initial.reset_values.Goals.{then-is_input+in_ok-push-2, else-is_input}
use Rattle.pm_job.proofs.initial.reset_values.Goals as goal

pub zero-requires : goal.zero-requires
zero-requires c =
    (wide_from c.args.signals.now c.loop-index.index c.index-signals-index.result c.loop-index-test.true c.index-signals-index.is c.loop-index.invariant.wide).0

pub loop-index-preserved : goal.loop-index-preserved
loop-index-preserved c =
    let signals = c.args.signals.now in
    let signal = c.index-signals-index.result in
    let whole = with_reset 1 (zeros_of (widths_of (inputs_of (drop 1 signals)))) in
    record {
      done = elim c.if-is_input.branch [
        | then-is_input+in_ok-push-2 w ↦
            let input : is_input signal.role ≡ true = sym c.is_input.ensures ∙ w.if-is_input.true in
            let row = ap (λ r. r.items) w.row-is in
            let added = w.in_ok-push-2.ensures.items in
            let pushed : c.if-is_input.row.items ≡ c.loop-index.row.items ++ w.zero.result ∷ [] = cc in
            resets_input signals c.loop-index.index signal c.loop-index.row.items c.if-is_input.row.items whole w.zero.result c.loop-index-test.true c.index-signals-index.is
            input w.zero.ensures pushed c.loop-index.invariant.done
        | else-is_input w ↦
            let other : is_input signal.role ≡ false = sym c.is_input.ensures ∙ w.if-is_input.false in
            let row = ap (λ r. r.items) w.row-is in
            let same : c.if-is_input.row.items ≡ c.loop-index.row.items = cc in
            resets_other signals c.loop-index.index signal c.loop-index.row.items c.if-is_input.row.items whole c.loop-index-test.true c.index-signals-index.is
            other same c.loop-index.invariant.done
      ];
      wide = (wide_from signals c.loop-index.index signal c.loop-index-test.true c.index-signals-index.is c.loop-index.invariant.wide).1;
    }
