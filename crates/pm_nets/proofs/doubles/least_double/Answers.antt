use Rattle.std.proofs.Common.{◌*◌, Option, subst, ℕ}
use Rattle.pm_design.specs.Instances.{flat_bits}
use Rattle.pm_instances.specs.Laid.{laid_out}
use Rattle.pm_nets.specs.Givers.{AreGiven, givers_of}
use Rattle.pm_nets.proofs.DoubleBits.{double_below, found_double, none_double}
use Rattle.pm_nets.proofs.doubles.least_double.Goals as goal

pub returns-in-None-clause-found : goal.returns-in-None-clause-found
returns-in-None-clause-found c =
    none_double (laid_out c.args.design.now)
    (2 * flat_bits c.args.design.now) c.in_ok-sets.sets c.give_instances.new.first
    c.in_ok-sets.ensures
    (subst (λ (o : Option ℕ). AreGiven c.in_ok-sets.sets
    (givers_of (laid_out c.args.design.now)) c.give_instances.new.first o)
    c.in-None.is c.in_ok-found.ensures.given)

pub returns-clause-found : goal.returns-clause-found
returns-clause-found c =
    found_double (laid_out c.args.design.now)
    (2 * flat_bits c.args.design.now) c.in_ok-sets.sets c.give_instances.new.first
    c.in-Some.end c.in_ok-sets.ensures
    (subst (λ (o : Option ℕ). AreGiven c.in_ok-sets.sets
    (givers_of (laid_out c.args.design.now)) c.give_instances.new.first o)
    c.in-Some.is c.in_ok-found.ensures.given)

pub returns-clause-bound : goal.returns-clause-bound
returns-clause-bound c =
    double_below (laid_out c.args.design.now) (flat_bits c.args.design.now) c.in_ok-sets.sets c.give_instances.new.first
    c.in-Some.end c.in_ok-sets.ensures
    (subst (λ (o : Option ℕ). AreGiven c.in_ok-sets.sets
    (givers_of (laid_out c.args.design.now)) c.give_instances.new.first o)
    c.in-Some.is c.in_ok-found.ensures.given)
