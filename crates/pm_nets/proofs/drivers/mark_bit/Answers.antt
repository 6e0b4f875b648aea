use Rattle.std.proofs.Common.{◌<◌, refl, subst, sym, ℕ}
use Rattle.pm_nets.proofs.Marking.{one_marked}
use Rattle.pm_nets.proofs.drivers.mark_bit.Goals as goal

pub returns-clause-marks : goal.returns-clause-marks
returns-clause-marks c =
    one_marked c.args.sets.now c.args.driven.now _ c.args.bit c.least-root.result c.requires.bit
    c.least-root.ensures.value
    (subst (λ (n : ℕ). c.least-root.result < n) (sym c.requires.size) c.least-root.ensures.bound) refl
