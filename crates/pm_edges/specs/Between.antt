-- The edges between the scheduled blocks of a plan.
use Rattle.std.specs.Prelude.{◌≡◌, ℕ, ◌==◌, ◌&&◌, ◌||◌, Bool, not, nat_lt, List, length}
use Rattle.std.specs.List.{list_any}
use Rattle.pm_design.specs.declared.plan.Plan.{Plan}
use Rattle.pm_design.specs.Runnable.{kind_at}
use Rattle.pm_block.specs.Run.{Memory}
use Rattle.pm_cons.specs.Below.{any_below}
use Rattle.pm_cons.specs.Orders.{IsTopological}
use Rattle.pm_cons.specs.Precedence.{IsOfBlocks, Precedence}
use Rattle.pm_cons.specs.Settled.{settled}
use Rattle.pm_cons.specs.UpdateBlocks.{IsOrdered}
use Rattle.pm_touched.specs.Events.{Place}
use Rattle.pm_touched.specs.Events.Place.{Bit}
use Rattle.pm_paths.specs.Memories.{at}
use Rattle.pm_paths.specs.PlanBlocks.{blocks_of, run_all, touch_at}
use Rattle.pm_edges.specs.Terms.{stands_for}

-- a constraint of some instance asks that one block come before another
abbrev pub is_asked : Plan → ℕ → ℕ → Bool
is_asked plan a b =
    any_below (length plan.instances)
    (λ i. list_any (λ r. stands_for plan i r.before a && stands_for plan i r.after b) (kind_at plan i).rules)

-- an explicit edge leads from one block to another
abbrev pub is_explicit : Plan → ℕ → ℕ → Bool
is_explicit plan a b =
    nat_lt a (length plan.scheduled) && (nat_lt b (length plan.scheduled) && (not (a == b) && is_asked plan a b))

-- one block writes a net that another reads
abbrev pub feeds : Plan → ℕ → ℕ → Bool
feeds plan a b = any_below plan.nets.count (λ n. (touch_at plan a (Bit n)).written && (touch_at plan b (Bit n)).read)

-- an inferred edge leads from one block to another: from a writer to a reader, unless an explicit edge goes back
abbrev pub is_inferred : Plan → ℕ → ℕ → Bool
is_inferred plan a b =
    nat_lt a (length plan.scheduled)
    && (nat_lt b (length plan.scheduled) && (not (a == b) && (feeds plan a b && not (is_explicit plan b a))))

-- one block comes directly before another
abbrev pub is_before : Plan → ℕ → ℕ → Bool
is_before plan a b = is_explicit plan a b || is_inferred plan a b

-- the precedence of the scheduled blocks
abbrev pub precedence_of_plan : Plan → Precedence
precedence_of_plan plan = record { count = length plan.scheduled; before = is_before plan }

-- each edge leads from a scheduled block to a scheduled block
abbrev pub EdgesAreOfBlocks : Type 0
EdgesAreOfBlocks = (plan : Plan) → IsOfBlocks (precedence_of_plan plan)

-- whatever topological order by its own edges is taken, the blocks of a plan settle to the same values
abbrev pub PlansSettleByTheirEdges : Type 0
PlansSettleByTheirEdges =
    (plan : Plan) (m : Memory) (order : List ℕ) (q : Place)
    → IsOrdered (blocks_of plan (precedence_of_plan plan)) → IsTopological (precedence_of_plan plan) order
    → at (run_all plan order m) q ≡ settled (blocks_of plan (precedence_of_plan plan)) (at m) q
