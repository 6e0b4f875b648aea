-- A component whose blocks stand in another order.
use Rattle.std.proofs.Common.{◌≡◌, ◌≢◌, ◌∙◌, ◌<◌, ◌+◌, ◌++◌, ◌==◌, ◌&&◌, inl, inr, ℕ, zero, suc, Bool, true, false, not, List, [], ◌∷◌, length, get_or, refl, ap, ap₂, subst, arith}
use Rattle.std.specs.Prelude.{Option, None, Some, All, slice_index_or, if◌then◌else◌}
use Rattle.std.specs.List.{list_all, list_any, IsDistinct, AllByRecursion}
use Rattle.std.specs.List.Sorted.{IsPermutation}
use Rattle.std.proofs.lemmas.List.Sorted.{IsPermutation-sym, All-permutation, Contains-permutation}
use Rattle.std.proofs.lemmas.List.FromFn.{length-range_with_len, get_or-range_with_len}
use Rattle.std.proofs.lemmas.Map.Keys.{IsDistinct-IsPermutation}
use Rattle.std.proofs.lemmas.Bool.Decides.{nat_tests}
use Rattle.std.proofs.lemmas.List.Folds.{list_any_none}
use Rattle.pm_bits.specs.Word.{Word}
use Rattle.std.specs.Str.{bytes_eq}
use Rattle.pm_io.specs.Lines.{Line, content}
use Rattle.pm_job.proofs.BlocksAt.{header_of-arranged}
use Rattle.pm_job.specs.declared.component.Component.{Component}
use Rattle.pm_job.specs.declared.component.Assignment.{Assignment}
use Rattle.pm_job.specs.Answers.{Outcome, Simulates, rows_of}
use Rattle.pm_job.specs.Form.{targets_differ}
use Rattle.pm_job.specs.Input.{Vectors, row_in, rows_from, before_rows, vectors_of, is_short}
use Rattle.pm_job.specs.Laws.{HaveSameBlocks}
use Rattle.pm_job.specs.Precedence.{HasLoop, IsArrangement, blocks_at, indices_of}
use Rattle.pm_job.specs.Reads.{AssignWithin}
use Rattle.pm_job.specs.Settled.{IsSettled}
use Rattle.pm_job.specs.Sound.{assignment_fits, is_width, widths_of}
use Rattle.pm_job.specs.Trace.{IsTrace, initial_values, with_inputs, row_text, rows_text, head_text}
use Rattle.pm_job.specs.Progress.{AreWithin, after_blocks, IsRead, IsReady, arranged, simulated}
use Rattle.pm_job.proofs.Arrangements.{blocks_at-IsPermutation}
use Rattle.pm_job.proofs.Existence.{arrangement_or_loop}
use Rattle.pm_job.proofs.Orders.{arranged_settles, one_solution_arranged, other_targets, settled_permuted}
use Rattle.pm_job.proofs.Solutions.{simulated_traces}
use Rattle.pm_job.proofs.Widths.{both}

-- ---- the blocks

-- each index of an arrangement is one of the blocks'
pub indices_within : (count : ℕ) (indices : List ℕ) → IsPermutation (indices_of count) indices → AreWithin count indices
indices_within count indices each_once = All-permutation (λ (index : ℕ). index < count) (indices_of count) indices each_once inside where
  inside : AreWithin count (indices_of count)
  inside k d in_range =
      let below : k < count = omega (arith, in_range, length-range_with_len 0 count) in
      omega (arith, below, get_or-range_with_len 0 count k d below)

-- another order has the same blocks
pub same_blocks : (blocks other : List Assignment) → IsPermutation blocks other → HaveSameBlocks other blocks
same_blocks blocks other permuted = (
  λ k d in_range. Contains-permutation other blocks (get_or other k d) (IsPermutation-sym blocks other permuted) (k, in_range, again other k d in_range),
  λ k d in_range. Contains-permutation blocks other (get_or blocks k d) permuted (k, in_range, again blocks k d in_range),
) where
  again : (xs : List Assignment) (k : ℕ) (d : Assignment) → k < length xs → slice_index_or xs k (get_or xs k d) ≡ get_or xs k d
  again [] k d in_range = absurd (omega arith)
  again (x ∷ xs) zero d in_range = refl
  again (x ∷ xs) (suc k) d in_range = again xs k d (omega (arith, in_range))

-- ---- tests of the blocks hold in another order

all_at : (test : Assignment → Bool) (blocks : List Assignment) → list_all test blocks ≡ true → All (λ b. test b ≡ true) blocks
all_at test [] holds k d in_range = absurd (omega arith)
all_at test (block ∷ blocks) holds zero d in_range = (both (test block) (list_all test blocks) holds).0
all_at test (block ∷ blocks) holds (suc k) d in_range = all_at test blocks (both (test block) (list_all test blocks) holds).1 k d (omega (arith, in_range))

all_by : (test : Assignment → Bool) (blocks : List Assignment) → All (λ b. test b ≡ true) blocks → list_all test blocks ≡ true
all_by test [] holds = refl
all_by test (block ∷ blocks) holds =
    ap₂ (λ (a b : Bool). a && b) (holds 0 block (omega arith)) (all_by test blocks (λ k d in_range. holds (suc k) d (omega (arith, in_range))))

all_permuted : (test : Assignment → Bool) (blocks other : List Assignment) → IsPermutation blocks other → list_all test blocks ≡ true → list_all test other ≡ true
all_permuted test blocks other permuted holds =
    all_by test other (All-permutation (λ (b : Assignment). test b ≡ true) blocks other permuted (all_at test blocks holds))

abbrev same_target : Assignment → Assignment → Bool
same_target block other = other.target == block.target

flipped : (block other : Assignment) → same_target block other ≡ same_target other block
flipped block other = grind (arith, nat_tests)

unequal : (a b : ℕ) → a ≢ b → (a == b) ≡ false
unequal a b differ = grind (arith, nat_tests)

by_all : {X : Type 0} (P : X → Type 0) (xs : List X) → All P xs → AllByRecursion P xs
by_all P [] all = tt
by_all P (x ∷ xs) all = (all 0 x (omega arith), by_all P xs (λ k d in_range. all (suc k) d (omega (arith, in_range))))

all_of : {X : Type 0} (P : X → Type 0) (xs : List X) → AllByRecursion P xs → All P xs
all_of P [] all k d in_range = absurd (omega arith)
all_of P (x ∷ xs) all zero d in_range = all.0
all_of P (x ∷ xs) all (suc k) d in_range = all_of P xs all.1 k d (omega (arith, in_range))

distinct : (blocks : List Assignment) → targets_differ blocks ≡ true → IsDistinct same_target blocks
unfolding IsDistinct
distinct [] differ = tt
distinct (block ∷ blocks) differ =
    let parts = both (not (list_any (λ (other : Assignment). other.target == block.target) blocks)) (targets_differ blocks) differ in (
      by_all (λ (other : Assignment). same_target block other ≡ false) blocks
          (λ k d in_range. unequal (get_or blocks k d).target block.target (other_targets blocks block.target parts.0 k d in_range)),
      distinct blocks parts.1,
    )

differ_by : (blocks : List Assignment) → IsDistinct same_target blocks → targets_differ blocks ≡ true
unfolding IsDistinct
differ_by [] apart = refl
differ_by (block ∷ blocks) apart =
    ap₂ (λ (a b : Bool). not a && b)
    (list_any_none (λ (other : Assignment). other.target == block.target) blocks (all_of (λ (other : Assignment). same_target block other ≡ false) blocks apart.0))
    (differ_by blocks apart.1)

targets_permuted : (blocks other : List Assignment) → IsPermutation blocks other → targets_differ blocks ≡ true → targets_differ other ≡ true
targets_permuted blocks other permuted differ =
    differ_by other (IsDistinct-IsPermutation same_target flipped blocks other permuted (distinct blocks differ))

-- ---- the equations

-- blocks without a loop have one solution
pub one_solution : (blocks : List Assignment) (start : List Word) → (HasLoop blocks → ⊥) → targets_differ blocks ≡ true → AssignWithin (length start) blocks
    → (settled : List Word) × IsSettled blocks start settled × ((other : List Word) → IsSettled blocks start other → other ≡ settled)
one_solution blocks start free differ within = elim (arrangement_or_loop blocks) [
  | inl loop ↦ absurd (free loop)
  | inr order ↦
      let ordered = blocks_at blocks order.0 in
      let permuted = blocks_at-IsPermutation blocks order.0 order.1 in
      let same = same_blocks blocks ordered permuted in
      let apart = targets_permuted blocks ordered permuted differ in
      let inside = All-permutation (λ (block : Assignment). block.target < length start) blocks ordered permuted within in
      let settled = arranged_settles blocks ordered start same order.1.ordered apart inside in (
        after_blocks ordered start,
        settled,
        λ other solves. one_solution_arranged blocks ordered start other (after_blocks ordered start) (same.1, same.0) order.1.ordered apart inside solves settled,
      )
]

-- ---- the component

-- a component that was read can run with its blocks in an arrangement
pub arranged_ready : (component : Component) (indices : List ℕ) → IsRead component → IsArrangement component.blocks indices → IsReady (arranged component indices)
arranged_ready component indices read order =
    let permuted = blocks_at-IsPermutation component.blocks indices order in
    let typed = both (list_all is_width (widths_of component.signals)) (list_all (assignment_fits (widths_of component.signals)) component.blocks) read.typed in
    record {
      typed = ap₂ (λ (a b : Bool). a && b) typed.0 (all_permuted (assignment_fits (widths_of component.signals)) component.blocks (blocks_at component.blocks indices) permuted typed.1);
      begins = read.begins;
      differ = targets_permuted component.blocks (blocks_at component.blocks indices) permuted read.differ;
      ordered = order.ordered;
    }

-- a trace is one whatever the order of the blocks
trace_arranged : (component : Component) (indices : List ℕ) (before : List Word) (rows cycles : List (List Word)) → HaveSameBlocks (blocks_at component.blocks indices) component.blocks
    → IsTrace (arranged component indices) before rows cycles → IsTrace component before rows cycles
trace_arranged component indices before [] [] same trace = tt
trace_arranged component indices before [] (settled ∷ cycles) same trace = trace
trace_arranged component indices before (row ∷ rows) [] same trace = trace
trace_arranged component indices before (row ∷ rows) (settled ∷ cycles) same trace = (
  settled_permuted (blocks_at component.blocks indices) component.blocks (with_inputs component.signals before row) settled same trace.0,
  trace_arranged component indices settled rows cycles same trace.1,
)

rows_text-arranged : (component : Component) (indices : List ℕ) (cycle : ℕ) (cycles : List (List Word)) → rows_text (arranged component indices) cycle cycles ≡ rows_text component cycle cycles
rows_text-arranged component indices cycle [] = refl
rows_text-arranged component indices cycle (values ∷ cycles) = ap (λ (text : List ℕ). row_text component cycle values ++ text) (rows_text-arranged component indices (cycle + 1) cycles)

simulates_arranged : (component : Component) (indices : List ℕ) (vectors : Option Vectors) (outcome : Outcome) → HaveSameBlocks (blocks_at component.blocks indices) component.blocks
    → Simulates (arranged component indices) vectors outcome → Simulates component vectors outcome
simulates_arranged component indices None outcome same simulates = simulates
simulates_arranged component indices (Some vectors) outcome same simulates = (
  simulates.0,
  trace_arranged component indices (initial_values component.signals) (rows_of component vectors) simulates.0 same simulates.1,
  simulates.2 ∙ ap (λ (text : List ℕ). let o : Outcome = record { output = head_text component ++ text; refused = vectors.refused } in o) (rows_text-arranged component indices 0 simulates.0),
)

rows_from-arranged : (component : Component) (indices : List ℕ) (count : ℕ) (lines : List Line) → rows_from (arranged component indices) count lines ≡ rows_from component count lines
rows_from-arranged component indices count [] = refl
rows_from-arranged component indices count (line ∷ lines) =
    ap (λ (rest : Vectors). elim (row_in component count line) as (λ _. Vectors) [ None ↦ record { rows = []; refused = Some (count + 2) } | Some row ↦ before_rows row rest ])
    (rows_from-arranged component indices (count + 1) lines)

vectors_of-arranged : (component : Component) (indices : List ℕ) (lines : List Line) → vectors_of (arranged component indices) lines ≡ vectors_of component lines
vectors_of-arranged component indices [] =
    ap (λ (names : List ℕ). if bytes_eq [] names then Some (let none : Vectors = record { rows = []; refused = None } in none) else None) (header_of-arranged component indices)
vectors_of-arranged component indices (line ∷ lines) =
    ap₂ (λ (names : List ℕ) (vectors : Vectors). if is_short line && bytes_eq (content line) names then Some vectors else None)
    (header_of-arranged component indices) (rows_from-arranged component indices 0 lines)

-- what a run with the blocks in an arrangement prints is what the component's vectors make it print
pub arranged_traces : (component : Component) (indices : List ℕ) (lines : List Line) → IsRead component → IsArrangement component.blocks indices
    → Simulates component (vectors_of component lines) (simulated (arranged component indices) lines)
arranged_traces component indices lines read order =
    simulates_arranged component indices (vectors_of component lines) (simulated (arranged component indices) lines)
    (same_blocks component.blocks (blocks_at component.blocks indices) (blocks_at-IsPermutation component.blocks indices order))
    (subst (λ (vectors : Option Vectors). Simulates (arranged component indices) vectors (simulated (arranged component indices) lines)) (vectors_of-arranged component indices lines)
    (simulated_traces (arranged component indices) lines (arranged_ready component indices read order)))
