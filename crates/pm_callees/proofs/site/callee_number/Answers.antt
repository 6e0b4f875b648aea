use Rattle.std.proofs.Common.{false, subst, sym, true, ℕ}
use Rattle.pm_design.specs.declared.connection.Callee.TheVariants as variant
use Rattle.pm_instances.specs.Laid.{laid_out}
use Rattle.pm_callees.specs.Ends.{IsThere}
use Rattle.pm_callees.specs.Numbers.{end_at}
use Rattle.pm_callees.proofs.Placing.{instance_there}
use Rattle.pm_callees.proofs.There.{callee_is}
use Rattle.pm_callees.proofs.site.callee_number.Goals as goal

pub method_number-requires-clause-there : goal.method_number-requires-clause-there
method_number-requires-clause-there c =
    callee_is c.args.design.now c.requires.design c.args.i c.args.callee (variant.Own c.in-Own.method)
    (instance_there c.args.design.now c.args.site.now c.requires.site c.args.i c.requires.instance) c.in-Own.is
    c.requires.there

pub method_number-requires-in-Child-clause-there : goal.method_number-requires-in-Child-clause-there
method_number-requires-in-Child-clause-there c =
    subst (λ (j : ℕ). IsThere (laid_out c.args.design.now) (end_at j false c.in-Child.method)) (sym c.child_at.ensures)
    (callee_is c.args.design.now c.requires.design c.args.i c.args.callee
    (variant.Child c.in-Child.child c.in-Child.method)
    (instance_there c.args.design.now c.args.site.now c.requires.site c.args.i c.requires.instance) c.in-Child.is
    c.requires.there)

pub port_number-requires-clause-there : goal.port_number-requires-clause-there
port_number-requires-clause-there c =
    callee_is c.args.design.now c.requires.design c.args.i c.args.callee (variant.Port c.in-Port.port)
    (instance_there c.args.design.now c.args.site.now c.requires.site c.args.i c.requires.instance) c.in-Port.is
    c.requires.there

pub port_number-requires-in-ChildPort-clause-there : goal.port_number-requires-in-ChildPort-clause-there
port_number-requires-in-ChildPort-clause-there c =
    subst (λ (j : ℕ). IsThere (laid_out c.args.design.now) (end_at j true c.in-ChildPort.port))
    (sym c.child_at-in-ChildPort.ensures)
    (callee_is c.args.design.now c.requires.design c.args.i c.args.callee
    (variant.ChildPort c.in-ChildPort.child c.in-ChildPort.port)
    (instance_there c.args.design.now c.args.site.now c.requires.site c.args.i c.requires.instance) c.in-ChildPort.is
    c.requires.there)
