-- Blocks in an arrangement have no loop: each step of precedence goes to an index further back.
use Rattle.std.proofs.Common.{◌≡◌, ◌∙◌, ◌<◌, ◌≤◌, ◌+◌, ◌||◌, ℕ, zero, suc, Bool, true, false, not, List, [], ◌∷◌, length, refl, ap, sym, subst, arith, ⊎_elim}
use Rattle.std.specs.Prelude.{Option, None, Some, nat_eq, slice_get}
use Rattle.std.specs.List.{list_all, position_or_len, range_with_len, cons_option}
use Rattle.std.proofs.lemmas.Bool.{cases_Bool, eqb-true, or_left, or_right}
use Rattle.std.proofs.lemmas.Bool.Decides.{nat_tests}
use Rattle.std.proofs.lemmas.List.Sorted.{list_any-IsPermutation}
use Rattle.std.proofs.lemmas.Option.{slice_get_within}
use Rattle.pm_job.specs.declared.component.Assignment.{Assignment}
use Rattle.pm_job.specs.Reads.{reads, is_ordered}
use Rattle.pm_job.specs.Precedence.{Precedes, Leads, HasLoop, IsArrangement, blocks_at, indices_of}
use Rattle.pm_job.specs.Precedence.Leads.{one_step, more_steps}
use Rattle.pm_job.proofs.Widths.{both}
use Rattle.pm_job.proofs.Loops.{is_among, is_among_cases}

-- a test that all blocks at these indices pass holds at each
passes_at : (blocks : List Assignment) (indices : List ℕ) (test : Assignment → Bool) (index : ℕ) (block : Assignment) → list_all test (blocks_at blocks indices) ≡ true
    → is_among index indices ≡ true → slice_get blocks index ≡ Some block → test block ≡ true
passes_at blocks [] test index block all is here = absurd (cc)
passes_at blocks (other ∷ indices) test index block all is here =
    pick (slice_get blocks other) refl all (λ rest later. passes_at blocks indices test index block rest later here) where
      pick : (found : Option Assignment) → slice_get blocks other ≡ found → list_all test (cons_option found (blocks_at blocks indices)) ≡ true
          → (list_all test (blocks_at blocks indices) ≡ true → is_among index indices ≡ true → test block ≡ true) → test block ≡ true
      pick None none all after = ⊎_elim
          (λ same. let at_other : slice_get blocks other ≡ Some block = subst (λ (p : ℕ). slice_get blocks p ≡ Some block) same here in absurd (cc))
          (λ later. after all later)
          (is_among_cases index other indices is)
      pick (Some first) found all after =
          let parts = both (test first) (list_all test (blocks_at blocks indices)) all in ⊎_elim
          (λ same.
          let at_other : slice_get blocks other ≡ Some block = subst (λ (p : ℕ). slice_get blocks p ≡ Some block) same here in
          let one : first ≡ block = cc in subst (λ (b : Assignment). test b ≡ true) one parts.0)
          (λ later. after parts.1 later)
          (is_among_cases index other indices is)

-- what stands after the first block is ordered too
ordered_after : (found : Option Assignment) (after : List Assignment) → is_ordered (cons_option found after) ≡ true → is_ordered after ≡ true
ordered_after None after ordered = ordered
ordered_after (Some block) after ordered = (both (list_all (λ later. not (reads later.target block.value)) after) (is_ordered after) ordered).1

-- the first block reads none of those after it
unread_after : (found : Option Assignment) (after : List Assignment) (reader : Assignment) → found ≡ Some reader → is_ordered (cons_option found after) ≡ true
    → list_all (λ later. not (reads later.target reader.value)) after ≡ true
unread_after None after reader is ordered = absurd (cc)
unread_after (Some block) after reader is ordered =
    let one : block ≡ reader = cc in
    subst (λ (b : Assignment). list_all (λ later. not (reads later.target b.value)) after ≡ true) one
    (both (list_all (λ later. not (reads later.target block.value)) after) (is_ordered after) ordered).0

-- how far after an index stands
abbrev rank : List ℕ → ℕ → ℕ
rank indices index = position_or_len (nat_eq index) indices

-- a block stands after those that precede it
rank_below : (blocks : List Assignment) (indices : List ℕ) (first second : ℕ) → is_ordered (blocks_at blocks indices) ≡ true → is_among first indices ≡ true
    → is_among second indices ≡ true → Precedes blocks first second → rank indices first < rank indices second
rank_below blocks [] first second ordered writer_is reader_is step = absurd (cc)
rank_below blocks (index ∷ indices) first second ordered writer_is reader_is step = ⊎_elim
    (λ here.
    let same : second ≡ index = eqb-true second index here in
    let hears : slice_get blocks index ≡ Some step.reader = subst (λ (p : ℕ). slice_get blocks p ≡ Some step.reader) same step.hears in
    let none = unread_after (slice_get blocks index) (blocks_at blocks indices) step.reader hears ordered in ⊎_elim
    (λ first_here. absurd (step.differ (first_here ∙ sym same)))
    (λ later.
    let unread = passes_at blocks indices (λ (later : Assignment). not (reads later.target step.reader.value)) first step.writer none later step.writes in
    let is_read = step.reads_it in absurd (cc))
    (is_among_cases first index indices writer_is))
    (λ reader_after.
    let reader_rank : rank (index ∷ indices) second ≡ 1 + rank indices second = rw reader_after refl in ⊎_elim
    (λ here. let writer_rank : rank (index ∷ indices) first ≡ 0 = rw here refl in omega arith)
    (λ writer_after.
    let writer_rank : rank (index ∷ indices) first ≡ 1 + rank indices first = rw writer_after refl in
    let rest = rank_below blocks indices first second (ordered_after (slice_get blocks index) (blocks_at blocks indices) ordered)
    (among_after first index indices writer_after writer_is) (among_after second index indices reader_after reader_is) step in
    omega (arith, rest))
    (cases_Bool (nat_eq first index)))
    (cases_Bool (nat_eq second index)) where
      among_after : (one other : ℕ) (others : List ℕ) → nat_eq one other ≡ false → is_among one (other ∷ others) ≡ true → is_among one others ≡ true
      among_after one other others differ is = sym (ap (λ (b : Bool). b || is_among one others) differ) ∙ is

-- the numbers from one on, so many
is_among-range : (count first index : ℕ) → first ≤ index → index < first + count → is_among index (range_with_len first count) ≡ true
is_among-range zero first index low high = absurd (omega arith)
is_among-range (suc count) first index low high = ⊎_elim
    (λ here. or_left (nat_eq index first) (is_among index (range_with_len (first + 1) count)) here)
    (λ there.
    let above : first + 1 ≤ index = grind (arith, nat_tests) in
    or_right (nat_eq index first) (is_among index (range_with_len (first + 1) count)) (is_among-range count (first + 1) index above (omega arith)))
    (cases_Bool (nat_eq index first))

-- an arrangement has the index of each block
is_among-arrangement : (blocks : List Assignment) (indices : List ℕ) (index : ℕ) (block : Assignment) → IsArrangement blocks indices → slice_get blocks index ≡ Some block → is_among index indices ≡ true
is_among-arrangement blocks indices index block arranged is =
    let within = slice_get_within blocks index block is in
    sym (list_any-IsPermutation (nat_eq index) (indices_of (length blocks)) indices arranged.each_once) ∙ is_among-range (length blocks) 0 index (omega arith) (omega (arith, within))

rank_step : (blocks : List Assignment) (indices : List ℕ) → IsArrangement blocks indices → (first second : ℕ) → Precedes blocks first second → rank indices first < rank indices second
rank_step blocks indices arranged first second step =
    rank_below blocks indices first second arranged.ordered (is_among-arrangement blocks indices first step.writer arranged step.writes)
    (is_among-arrangement blocks indices second step.reader arranged step.hears) step

rank_leads : (blocks : List Assignment) (indices : List ℕ) → IsArrangement blocks indices → (first second : ℕ) → Leads blocks first second → rank indices first < rank indices second
rank_leads blocks indices arranged _ _ (one_step first second step) = rank_step blocks indices arranged first second step
rank_leads blocks indices arranged _ _ (more_steps first second third step more) =
    let one = rank_step blocks indices arranged first second step in
    let rest = rank_leads blocks indices arranged second third more in omega (arith, one, rest)

-- blocks that have an arrangement have no loop
pub ordered_has_no_loop : (blocks : List Assignment) (indices : List ℕ) → IsArrangement blocks indices → HasLoop blocks → ⊥
ordered_has_no_loop blocks indices arranged loop = let less = rank_leads blocks indices arranged loop.0 loop.0 loop.1 in absurd (omega (arith, less))
