use Rattle.std.proofs.Common.{ℕ, ◌+◌, sym, subst, take}
use Rattle.pm_nets.specs.Faults.{IsLeastOf}
use Rattle.pm_nets.proofs.Leasts.{least_pushed}
use Rattle.pm_nets.proofs.check.least.Goals as goal

pub loop-line-preserved : goal.loop-line-preserved
loop-line-preserved c =
    subst (λ (n : ℕ). IsLeastOf (take (c.loop-line.line-index + 1) c.args.lines.now) n) (sym c.lesser.ensures)
    (least_pushed c.args.lines.now c.loop-line.line-index c.loop-line.least c.loop-line-test.true
    c.loop-line.invariant)
