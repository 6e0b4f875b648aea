use Rattle.std.proofs.Common.{◌≡◌, subst}
use Rattle.pm_cons.specs.Breaks.{break_of}
use Rattle.pm_cons.specs.Edges.{precedence_of}
use Rattle.pm_cons.specs.Precedence.{Precedence}
use Rattle.pm_sched.proofs.Checked.{none_is_topological}
use Rattle.pm_sched.proofs.checking.first_break.Goals as goal

pub returns-clause-none : goal.returns-clause-none
returns-clause-none c = none_is_topological (precedence_of c.args.edges.now) c.requires.edges.precedence c.args.order.now c.break_in.result
    (subst (λ (g : Precedence). c.break_in.result ≡ break_of g c.args.order.now) c.in_ok-predecessors.ensures.bits c.break_in.ensures)
