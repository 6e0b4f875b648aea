use Rattle.std.proofs.Common.{◌≡◌, ◌≤◌, ℕ, ap, get_or, refl, subst}
use Rattle.std.proofs.lemmas.List.{get_or_default}
use Rattle.pm_design.specs.declared.signal.Signal.{Signal}
use Rattle.pm_nets.proofs.BitNames.{bits_left, place_more, signal_left}
use Rattle.pm_nets.proofs.naming.signal_with.Goals as goal

pub loop-signal-preserved : goal.loop-signal-preserved
loop-signal-preserved c =
    let x : Signal = c.index-signals-signal-in-loop-signal.result in
    let lt = signal_left c.args.signals.now c.loop-signal.signal c.loop-signal.rest c.loop-signal.invariant.0 in
    let same : (get_or c.args.signals.now c.loop-signal.signal c.index-signals-signal.result).width
    ≡ (get_or c.args.signals.now c.loop-signal.signal x).width =
    ap (λ (s : Signal). s.width)
    (get_or_default c.args.signals.now c.loop-signal.signal c.index-signals-signal.result x lt) in
    let le : (get_or c.args.signals.now c.loop-signal.signal x).width ≤ c.loop-signal.rest =
    subst (λ (w : ℕ). w ≤ c.loop-signal.rest) same c.loop-signal-test.true in (
      bits_left c.args.signals.now c.loop-signal.signal c.loop-signal.rest _ x lt refl le c.loop-signal.invariant.0,
      place_more c.args.signals.now c.loop-signal.signal c.args.bit c.loop-signal.rest _ x lt refl le
          c.loop-signal.invariant.1,
    )
