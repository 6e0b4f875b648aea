use Rattle.std.proofs.Common.{◌≡◌, ℕ, List, ◌∷◌, refl}
use Rattle.pm_cons.specs.Walks.{IsLeastWalk}
use Rattle.pm_cons.proofs.Cycles.{cycle_from}
use Rattle.pm_sched.specs.Cycles.{IsCycleFrom}
use Rattle.pm_sched.specs.Tables.{precedence_in}
use Rattle.pm_sched.proofs.Ready.{blocks_in}
use Rattle.pm_sched.proofs.Walked.{some_length, has_loop_at, if_ok}
use Rattle.pm_sched.proofs.cycle.cycle_from.Goals as goal

pub unreachable-requires : goal.unreachable-requires
unreachable-requires c = some_length (precedence_in c.args.predecessors.now) (blocks_in c.args.predecessors.now c.requires.square) c.args.block c.requires.block c.requires.least c.requires.on_loop
    (has_loop_at (precedence_in c.args.predecessors.now) c.args.block c.requires.block c.requires.on_loop) (c.in-None.ensures.none refl)

pub returns : goal.returns
returns c = if_ok c.walk_back.result
    (λ (list : List ℕ). (xs : List ℕ) × (list ≡ c.args.block ∷ xs) × IsLeastWalk (precedence_in c.args.predecessors.now) c.in-Some.last c.args.block c.args.block xs)
    (IsCycleFrom (precedence_in c.args.predecessors.now) c.args.block)
    (λ list h. (h.0, h.1, cycle_from (precedence_in c.args.predecessors.now) (blocks_in c.args.predecessors.now c.requires.square) c.args.block c.in-Some.last h.0 c.requires.block c.requires.least c.in-Some.ensures.length.shortest h.2)) c.walk_back.ensures
