-- The block that is to run.
use Rattle.std.proofs.Common.{◌+◌, ◌<◌, ◌≤◌, ◌^◌, ℕ, zero, suc, List, [], ◌∷◌, length, nat_le, arith, ltb-true, leb-true, refl}
use Rattle.std.specs.Prelude.{IsTrue, slice_index_or}
use Rattle.std.specs.List.{list_all}
use Rattle.pm_design.specs.declared.body.Block.{Block}
use Rattle.std.proofs.lemmas.Bool.{and_parts, and_from, lt-ltb}
use Rattle.pm_design.specs.declared.plan.Flat.{Flat}
use Rattle.pm_design.specs.declared.plan.FlatPart.{FlatPart}
use Rattle.pm_design.specs.declared.plan.Plan.{Plan}
use Rattle.pm_design.specs.Layout.{instance_of, layout_of}
use Rattle.pm_design.specs.Runnable.{IsRunnable, block_at, is_there, kind_at, no_block}
use Rattle.pm_design.specs.Widths.{is_width}
use Rattle.pm_block.specs.declared.block_run.Run.{Run}
use Rattle.pm_block.specs.declared.block_run.Run.TheVariants as which
use Rattle.pm_block.specs.Tables.{can_run, ends_below, flat_of, most, most_in, no_flat}
use Rattle.pm_design.proofs.Elements.{element_passes}
use Rattle.pm_block.proofs.There.{has_kind, is_block}

-- it is there
pub flat_there : (plan : Plan) (run : Run) → IsRunnable plan → IsTrue (can_run plan run) → IsTrue (is_there plan (flat_of plan run))
flat_there plan (which.Scheduled n) runnable can = element_passes (is_there plan) plan.scheduled n no_flat runnable.scheduled (ltb-true _ _ can)
flat_there plan (which.Edge n) runnable can = element_passes (is_there plan) plan.edge_blocks n no_flat runnable.edge_blocks (ltb-true _ _ can)

-- its temporaries have good widths
pub flat_widths : (plan : Plan) (run : Run) → IsRunnable plan → IsTrue (can_run plan run) → IsTrue (list_all is_width (block_at plan (flat_of plan run)).temps)
flat_widths plan run runnable can =
    let flat : Flat = flat_of plan run in
    let there : IsTrue (is_there plan flat) = flat_there plan run runnable can in
    let k : ℕ = (instance_of plan flat.instance).kind in
    let kind = runnable.sound.elaborated.kinds k (has_kind plan flat there) in
    element_passes (λ (b : Block). list_all is_width b.temps) (kind_at plan flat.instance).blocks flat.block no_block kind.blocks (is_block plan flat there)

at_most : (number : Flat → ℕ) (xs : List Flat) (i : ℕ) (d : Flat) → i < length xs → number (slice_index_or xs i d) ≤ most number xs
at_most number [] i d lt = absurd (omega arith)
at_most number (x ∷ xs) zero d lt = omega arith
at_most number (x ∷ xs) (suc i) d lt = let rest : number (slice_index_or xs i d) ≤ most number xs = at_most number xs i d (omega arith) in omega arith

-- it has at most as many as the most that a block has
pub within_most : (plan : Plan) (number : Flat → ℕ) (run : Run) → IsTrue (can_run plan run) → number (flat_of plan run) ≤ most_in plan number
within_most plan number (which.Scheduled n) can =
    let here : number (slice_index_or plan.scheduled n no_flat) ≤ most number plan.scheduled = at_most number plan.scheduled n no_flat (ltb-true _ _ can) in
    omega arith
within_most plan number (which.Edge n) can =
    let here : number (slice_index_or plan.edge_blocks n no_flat) ≤ most number plan.edge_blocks = at_most number plan.edge_blocks n no_flat (ltb-true _ _ can) in
    omega arith

ends_below_all : (xs : List FlatPart) (n : ℕ) → n < 2 ^ 32 → IsTrue (list_all (λ s. nat_le (s.bit + s.width) n) xs) → IsTrue (list_all ends_below xs)
ends_below_all [] n lt all = refl
ends_below_all (x ∷ xs) n lt all =
    let parts = and_parts (nat_le (x.bit + x.width) n) (list_all (λ s. nat_le (s.bit + s.width) n) xs) all in
    let here : x.bit + x.width ≤ n = leb-true _ _ parts.0 in
    and_from (ends_below x) (list_all ends_below xs) (lt-ltb (x.bit + x.width) (2 ^ 32) (omega arith)) (ends_below_all xs n lt parts.1)

-- the signals of a runnable plan end at numbers of 32 bits
pub ends_are_below : (plan : Plan) → IsRunnable plan → IsTrue (list_all ends_below (layout_of plan).signals)
ends_are_below plan runnable =
    ends_below_all (layout_of plan).signals (length plan.nets.net_of) (omega (arith, runnable.nets, runnable.few_bits)) runnable.signals_there
