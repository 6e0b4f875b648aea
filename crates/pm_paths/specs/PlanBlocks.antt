-- The scheduled blocks of a plan as the blocks of a precedence.
use Rattle.std.specs.Prelude.{◌≡◌, ◌<◌, ℕ, nat_lt, if◌then◌else◌, List, [], ◌∷◌, length, slice_index_or}
use Rattle.pm_design.specs.declared.plan.Plan.{Plan}
use Rattle.pm_block.specs.declared.block_run.Run.TheVariants as which
use Rattle.pm_block.specs.Run.{Memory}
use Rattle.pm_block.specs.Tables.{left_by, no_flat}
use Rattle.pm_block.specs.Value.{zero_word}
use Rattle.pm_cons.specs.Orders.{IsTopological}
use Rattle.pm_cons.specs.Precedence.{IsOfBlocks, Precedence}
use Rattle.pm_cons.specs.Settled.{settled}
use Rattle.pm_cons.specs.UpdateBlocks.{IsLocal, IsOrdered, IsWithin, UpdateBlocks, Valuation}
use Rattle.pm_touched.specs.Events.{Place}
use Rattle.pm_touched.specs.Events.Place.{Bit, Object}
use Rattle.pm_touched.specs.Touches.{Touch}
use Rattle.pm_touched.specs.Walks.{untouched}
use Rattle.pm_paths.specs.BlockLaws.{touch}
use Rattle.pm_paths.specs.Memories.{at}

-- the memory that has these words at its places
abbrev pub memory_with : Valuation Place → Memory
memory_with v = record { places = λ n. (slice_index_or (v (Bit n)) 0 (zero_word 1)).value; items = λ k. v (Object k) }

-- what the paths of a scheduled block do with a place, and nothing past the end
abbrev pub touch_at : Plan → ℕ → Place → Touch
touch_at plan b q =
    if nat_lt b (length plan.scheduled) then touch plan (slice_index_or plan.scheduled b no_flat) q else untouched

-- the scheduled blocks with a precedence: what each reads and may write, and what its run leaves there
abbrev pub blocks_of : Plan → Precedence → UpdateBlocks Place
blocks_of plan g = record {
  precedence = g;
  run = λ b v q. if (touch_at plan b q).written then at (left_by plan (which.Scheduled b) (memory_with v)) q else v q;
  reads = λ b q. (touch_at plan b q).read;
  writes = λ b q. (touch_at plan b q).written;
}

-- a precedence of the scheduled blocks
pub record IsFor (plan : Plan) (g : Precedence) : Type 0 where
  pub count : g.count ≡ length plan.scheduled
  pub edges : IsOfBlocks g

-- the memory after the blocks ran one after another
abbrev pub run_all : Plan → List ℕ → Memory → Memory
run_all plan [] m = m
run_all plan (b ∷ blocks) m = run_all plan blocks (left_by plan (which.Scheduled b) m)

-- the run of a scheduled block changes only what it may write, and hangs only on what it touches
abbrev pub PlansAreLocal : Type 0
PlansAreLocal = (plan : Plan) (g : Precedence) → IsFor plan g → IsWithin (blocks_of plan g) × IsLocal (blocks_of plan g)

-- what a scheduled block leaves is its run
abbrev pub RunsAreThose : Type 0
RunsAreThose =
    (plan : Plan) (g : Precedence) (b : ℕ) (m : Memory) (q : Place) → b < length plan.scheduled
    → (blocks_of plan g).run b (at m) q ≡ at (left_by plan (which.Scheduled b) m) q

-- whatever the topological order is, running the blocks of a plan once each ends in the settled values
abbrev pub PlansSettle : Type 0
PlansSettle =
    (plan : Plan) (g : Precedence) (m : Memory) (order : List ℕ) (q : Place)
    → IsFor plan g → IsOrdered (blocks_of plan g) → IsTopological g order
    → at (run_all plan order m) q ≡ settled (blocks_of plan g) (at m) q

-- any two topological orders leave the same at each place
abbrev pub OrdersAgree : Type 0
OrdersAgree =
    (plan : Plan) (g : Precedence) (m : Memory) (order other : List ℕ) (q : Place)
    → IsFor plan g → IsOrdered (blocks_of plan g) → IsTopological g order → IsTopological g other
    → at (run_all plan order m) q ≡ at (run_all plan other m) q
