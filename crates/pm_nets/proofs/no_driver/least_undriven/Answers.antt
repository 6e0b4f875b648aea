use Rattle.std.proofs.Common.{List, length, subst, ℕ}
use Rattle.pm_design.specs.Instances.{flat_bits}
use Rattle.pm_instances.specs.Laid.{laid_out}
use Rattle.pm_nets.specs.Drivers.{IsFirstBelow}
use Rattle.pm_nets.proofs.FirstUndriven.{found_below, found_undriven}
use Rattle.pm_nets.proofs.no_driver.least_undriven.Goals as goal

pub returns-clause-found : goal.returns-clause-found
returns-clause-found c =
    found_undriven (laid_out c.args.design.now) (flat_bits c.args.design.now) c.args.sets.now c.mark_drivers.new.driven
    c.first_other.result c.requires.nets c.in_ok-mark_drivers.ensures.driven
    (subst (λ (l : List ℕ). IsFirstBelow l c.mark_drivers.new.driven (length l) c.first_other.result)
    c.mark_drivers.ensures.same c.first_other.ensures.first)

pub returns-clause-bound : goal.returns-clause-bound
returns-clause-bound c =
    found_below (laid_out c.args.design.now)
    (flat_bits c.args.design.now) c.args.sets.now c.first_other.result c.requires.nets
    (found_undriven (laid_out c.args.design.now)
    (flat_bits c.args.design.now) c.args.sets.now c.mark_drivers.new.driven
    c.first_other.result c.requires.nets c.in_ok-mark_drivers.ensures.driven
    (subst (λ (l : List ℕ). IsFirstBelow l c.mark_drivers.new.driven (length l) c.first_other.result)
    c.mark_drivers.ensures.same c.first_other.ensures.first))
