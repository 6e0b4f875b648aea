-- The scheduled blocks of a plan settle.
use std.Path.{fun_ext}
use Rattle.std.proofs.Common.{◌≡◌, ◌∙◌, ◌<◌, ◌||◌, ℕ, List, [], ◌∷◌, refl, sym, ap, subst, Bool, true, false, length, nat_lt, ltb-true}
use Rattle.std.specs.Prelude.{if◌then◌else◌, slice_index_or}
use Rattle.std.proofs.lemmas.Bool.{lt-ltb}
use Rattle.pm_bits.specs.Word.{Word}
use Rattle.pm_design.specs.declared.plan.Plan.{Plan}
use Rattle.pm_block.specs.declared.block_run.Run.TheVariants as which
use Rattle.pm_block.specs.Run.{Memory}
use Rattle.pm_block.specs.Tables.{left_by, no_flat}
use Rattle.pm_block.specs.Value.{zero_word}
use Rattle.pm_cons.specs.Orders.{Completes, run_in_turn}
use Rattle.pm_cons.specs.Precedence.{Precedence}
use Rattle.pm_cons.specs.UpdateBlocks.{IsLocal, IsWithin, Valuation}
use Rattle.pm_cons.proofs.Settling.{run_settles}
use Rattle.pm_touched.specs.Events.{Place}
use Rattle.pm_touched.specs.Events.Place.{Bit, Object}
use Rattle.pm_touched.specs.Touches.{Touch}
use Rattle.pm_touched.specs.Walks.{untouched}
use Rattle.pm_paths.specs.BlockLaws.{touch}
use Rattle.pm_paths.specs.Memories.{at}
use Rattle.pm_paths.specs.PlanBlocks.{IsFor, OrdersAgree, PlansAreLocal, PlansSettle, RunsAreThose, blocks_of, memory_with, run_all, touch_at}
use Rattle.pm_paths.proofs.Blocks.{blocks_hang_on_what_they_touch, blocks_keep}

-- a block that may write something is there
writer_there : (plan : Plan) (b : ℕ) (q : Place) → (touch_at plan b q).written ≡ true
    → (b < length plan.scheduled) × ((touch plan (slice_index_or plan.scheduled b no_flat) q).written ≡ true)
writer_there plan b q h = by (nat_lt b (length plan.scheduled)) refl h
  where
    by : (t : Bool) → nat_lt b (length plan.scheduled) ≡ t
        → (if t then touch plan (slice_index_or plan.scheduled b no_flat) q else untouched).written ≡ true
        → (b < length plan.scheduled) × ((touch plan (slice_index_or plan.scheduled b no_flat) q).written ≡ true)
    by true is h = (ltb-true _ _ is, h)
    by false is h = absurd (cc)

touch_there : (plan : Plan) (b : ℕ) (q : Place) → b < length plan.scheduled
    → touch_at plan b q ≡ touch plan (slice_index_or plan.scheduled b no_flat) q
touch_there plan b q lt =
    ap (λ (t : Bool). if t then touch plan (slice_index_or plan.scheduled b no_flat) q else untouched)
    (lt-ltb b (length plan.scheduled) lt)

same_net : (v w : Valuation Place) (q : Place) → v q ≡ w q → at (memory_with v) q ≡ at (memory_with w) q
same_net v w (Bit n) same = ap (λ (ws : List Word). (record { width = 1; value = (slice_index_or ws 0 (zero_word 1)).value }) ∷ []) same
same_net v w (Object k) same = same

pub plans_are_local : PlansAreLocal
plans_are_local plan g for = (within, local)
  where
    within : IsWithin (blocks_of plan g)
    within = record {
      precedence = for.edges;
      writers = λ b p writes. subst (λ (n : ℕ). b < n) (sym for.count) (writer_there plan b p writes).0;
    }

    local : IsLocal (blocks_of plan g)
    local = record {
      changes = λ b v p none.
          ap (λ (t : Bool). if t then at (left_by plan (which.Scheduled b) (memory_with v)) p else v p) none;
      depends = λ b v w same p writes.
          let there = writer_there plan b p writes in
          ap (λ (t : Bool). if t then at (left_by plan (which.Scheduled b) (memory_with v)) p else v p) writes
          ∙ blocks_hang_on_what_they_touch plan (slice_index_or plan.scheduled b no_flat) (memory_with v) (memory_with w)
          (λ q touched. same_net v w q (same q (ap (λ (x : Touch). x.read || x.written) (touch_there plan b q there.0) ∙ touched))) p there.1
          ∙ sym (ap (λ (t : Bool). if t then at (left_by plan (which.Scheduled b) (memory_with w)) p else w p) writes);
    }

pub runs_are_those : RunsAreThose
runs_are_those plan g b m q lt = by ((touch_at plan b q).written) refl
  where
    by : (t : Bool) → (touch_at plan b q).written ≡ t
        → (if t then at (left_by plan (which.Scheduled b) (memory_with (at m))) q else at m q)
        ≡ at (left_by plan (which.Scheduled b) m) q
    by true is = refl
    by false is =
        sym (blocks_keep plan (slice_index_or plan.scheduled b no_flat) m q
        (ap (λ (x : Touch). x.written) (sym (touch_there plan b q lt)) ∙ is))

-- the run on memories is the run on what they have at their places
turns_same : (plan : Plan) (g : Precedence) → IsFor plan g → (order ran : List ℕ) (m : Memory) → Completes g ran order
    → (q : Place) → run_in_turn (blocks_of plan g) order (at m) q ≡ at (run_all plan order m) q
turns_same plan g for [] ran m completes q = refl
turns_same plan g for (b ∷ order) ran m completes q =
    let lt : b < length plan.scheduled = subst (λ (n : ℕ). b < n) for.count completes.0.known in
    ap (λ (v : Valuation Place). run_in_turn (blocks_of plan g) order v q) (fun_ext (λ p. runs_are_those plan g b m p lt))
    ∙ turns_same plan g for order (b ∷ ran) (left_by plan (which.Scheduled b) m) completes.1 q

pub plans_settle : PlansSettle
plans_settle plan g m order q for ordered topological =
    sym (turns_same plan g for order [] m topological q)
    ∙ run_settles (blocks_of plan g) (plans_are_local plan g for).0 (plans_are_local plan g for).1 ordered (at m) order
    topological q

pub orders_agree : OrdersAgree
orders_agree plan g m order other q for ordered one two =
    plans_settle plan g m order q for ordered one ∙ sym (plans_settle plan g m other q for ordered two)
