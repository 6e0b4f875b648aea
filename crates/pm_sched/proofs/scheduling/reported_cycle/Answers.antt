use Rattle.std.proofs.Common.{subst, sym, ◌∙◌}
use Rattle.pm_cons.specs.Edges.{precedence_of}
use Rattle.pm_cons.specs.Precedence.{Precedence}
use Rattle.pm_sched.specs.Cycles.{IsCycleFrom, IsReported}
use Rattle.pm_sched.specs.Tables.{precedence_in}
use Rattle.pm_sched.proofs.Walked.{least_tells, some_on_loop, if_ok}
use Rattle.pm_sched.proofs.scheduling.reported_cycle.Goals as goal

pub cycle_from-requires-clause-block : goal.cycle_from-requires-clause-block
cycle_from-requires-clause-block c = (least_tells (precedence_in c.args.predecessors.now) (precedence_of c.args.edges.now) c.requires.bits c.in-Some.block (sym c.in-Some.is ∙ c.in_ok-least.ensures)).0

pub cycle_from-requires-clause-least : goal.cycle_from-requires-clause-least
cycle_from-requires-clause-least c = (least_tells (precedence_in c.args.predecessors.now) (precedence_of c.args.edges.now) c.requires.bits c.in-Some.block (sym c.in-Some.is ∙ c.in_ok-least.ensures)).2

pub cycle_from-requires-clause-on_loop : goal.cycle_from-requires-clause-on_loop
cycle_from-requires-clause-on_loop c = (least_tells (precedence_in c.args.predecessors.now) (precedence_of c.args.edges.now) c.requires.bits c.in-Some.block (sym c.in-Some.is ∙ c.in_ok-least.ensures)).1

pub unreachable-requires : goal.unreachable-requires
unreachable-requires c = some_on_loop (precedence_of c.args.edges.now) c.requires.has_loop (sym c.in-None.is ∙ c.in_ok-least.ensures)

pub returns : goal.returns
returns c = if_ok c.cycle_from.result (IsCycleFrom (precedence_in c.args.predecessors.now) c.in-Some.block) (IsReported (precedence_of c.args.edges.now))
    (λ list h. (c.in-Some.block, subst (λ (g : Precedence). IsCycleFrom g c.in-Some.block list) c.requires.bits h)) c.cycle_from.ensures
