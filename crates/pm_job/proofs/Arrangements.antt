-- Places that are taken one by one, each once it is free among what is left, are an arrangement.
use Rattle.std.proofs.Common.{◌≡◌, ◌∙◌, ◌<◌, ◌+◌, ◌++◌, ◌==◌, ◌&&◌, ℕ, zero, suc, Bool, true, false, not, List, [], ◌∷◌, map, length, get_or, refl, ap, sym, subst, arith, add-one, ⊎_elim}
use Rattle.std.specs.Prelude.{Option, None, Some, nat_eq, slice_get}
use Rattle.std.specs.List.{list_any, list_all, position, AllByRecursion, IsDistinct, remove, range_with_len, cons_option}
use Rattle.std.specs.List.Sorted.{IsPermutation}
use Rattle.std.specs.Cmp.{nat_eq_equiv}
use Rattle.std.proofs.lemmas.Bool.{or_parts, and_from, not-true, not_from_false}
use Rattle.std.proofs.lemmas.Bool.Decides.{nat_tests}
use Rattle.std.proofs.lemmas.List.{append-nil}
use Rattle.std.proofs.lemmas.List.Edits.{length-remove}
use Rattle.std.proofs.lemmas.List.FromFn.{length-range_with_len}
use Rattle.std.proofs.lemmas.List.Quantifiers.{position-Some}
use Rattle.std.proofs.lemmas.List.Sorted.{IsPermutation-refl, IsPermutation-remove, IsPermutation-more, IsPermutation-map, list_any-IsPermutation}
use Rattle.std.proofs.lemmas.Map.Keys.{IsDistinct-head, IsDistinct-tail, IsDistinct-IsPermutation}
use Rattle.pm_job.specs.declared.component.Assignment.{Assignment}
use Rattle.pm_job.specs.Reads.{reads, is_ordered}
use Rattle.pm_job.specs.Precedence.{IsArrangement, blocks_at, indices_of, precedes, is_free}
use Rattle.std.proofs.lemmas.Option.{slice_get-get_or}
use Rattle.pm_job.proofs.Widths.{both}
use Rattle.pm_job.proofs.Loops.{is_among, is_among_first, is_among_later, is_among_cases}

-- no index after another, among those placed or those left, precedes it
abbrev pub is_arranged : List Assignment → List ℕ → List ℕ → Bool
is_arranged blocks [] left = true
is_arranged blocks (index ∷ placed) left = is_free blocks (placed ++ left) index && is_arranged blocks placed left

-- one number more
range_more : (first count : ℕ) → range_with_len first (count + 1) ≡ range_with_len first count ++ (first + count) ∷ []
range_more first zero = let same : first ≡ first + 0 = omega arith in ap (λ (index : ℕ). index ∷ []) same
range_more first (suc count) =
    let longer : suc count + 1 ≡ suc (count + 1) = omega arith in
    let same : first + 1 + count ≡ first + suc count = omega arith in
    ap (range_with_len first) longer
    ∙ ap (λ (indices : List ℕ). first ∷ indices) (range_more (first + 1) count ∙ ap (λ (last : ℕ). range_with_len (first + 1) count ++ last ∷ []) same)

-- the indices of one block more
pub indices_of-more : (count : ℕ) (indices more : List ℕ) → indices ≡ indices_of count → more ≡ indices ++ count ∷ [] → more ≡ indices_of (count + 1)
indices_of-more count indices more is pushed =
    let same : count ≡ 0 + count = omega arith in
    pushed ∙ ap (λ (start : List ℕ). start ++ count ∷ []) is ∙ ap (λ (last : ℕ). indices_of count ++ last ∷ []) same ∙ sym (range_more 0 count)

-- an index that is free among those left goes to the end of those placed
pub is_arranged_more : (blocks : List Assignment) (placed left : List ℕ) (slot index : ℕ) → slot < length left → index ≡ get_or left slot index
    → is_free blocks left index ≡ true → is_arranged blocks placed left ≡ true → is_arranged blocks (placed ++ index ∷ []) (remove left slot) ≡ true
is_arranged_more blocks [] left slot index within is free arranged =
    let test : ℕ → Bool = λ other. precedes blocks other index in
    let none : list_any test left ≡ false = not-true (list_any test left) free in
    let moved = list_any-IsPermutation test left (index ∷ remove left slot) (IsPermutation-remove left slot index within is) in
    let rest = or_parts (test index) (list_any test (remove left slot)) (sym moved ∙ none) in
    and_from (is_free blocks (remove left slot) index) true (not_from_false (list_any test (remove left slot)) rest.1) refl
is_arranged_more blocks (first ∷ placed) left slot index within is free arranged =
    let test : ℕ → Bool = λ other. precedes blocks other first in
    let parts = both (is_free blocks (placed ++ left) first) (is_arranged blocks placed left) arranged in
    let moved = list_any-IsPermutation test (placed ++ left) ((placed ++ index ∷ []) ++ remove left slot)
    (IsPermutation-more (placed ++ left) placed left slot index within is (IsPermutation-refl (placed ++ left))) in
    and_from (is_free blocks ((placed ++ index ∷ []) ++ remove left slot) first) (is_arranged blocks (placed ++ index ∷ []) (remove left slot))
    (ap not (sym moved) ∙ parts.0) (is_arranged_more blocks placed left slot index within is free parts.1)

-- the test for precedence at two blocks
precedes_here : (blocks : List Assignment) (first second : ℕ) (writer reader : Assignment) → slice_get blocks first ≡ Some writer → slice_get blocks second ≡ Some reader
    → precedes blocks first second ≡ (not (first == second) && reads writer.target reader.value)
precedes_here blocks first second writer reader writes hears = rw (writes, hears) refl

-- what doesn't precede another block isn't read by it
unread : (blocks : List Assignment) (first second : ℕ) (writer reader : Assignment) → slice_get blocks first ≡ Some writer → slice_get blocks second ≡ Some reader
    → nat_eq second first ≡ false → precedes blocks first second ≡ false → not (reads writer.target reader.value) ≡ true
unread blocks first second writer reader writes hears differ none =
    let apart : (first == second) ≡ false = nat_eq_equiv.symm first second ∙ differ in
    let same : precedes blocks first second ≡ reads writer.target reader.value =
    precedes_here blocks first second writer reader writes hears ∙ ap (λ (b : Bool). not b && reads writer.target reader.value) apart in
    not_from_false (reads writer.target reader.value) (sym same ∙ none)

-- a block reads none of those after it
none_read : (blocks : List Assignment) (index : ℕ) (reader : Assignment) (after : List ℕ) → slice_get blocks index ≡ Some reader
    → AllByRecursion (λ other. nat_eq index other ≡ false) after → list_any (λ other. precedes blocks other index) after ≡ false
    → list_all (λ later. not (reads later.target reader.value)) (blocks_at blocks after) ≡ true
none_read blocks index reader [] hears apart none = refl
none_read blocks index reader (other ∷ after) hears apart none =
    let parts = or_parts (precedes blocks other index) (list_any (λ other. precedes blocks other index) after) none in
    pick (slice_get blocks other) refl parts.0 (none_read blocks index reader after hears apart.1 parts.1) where
      pick : (found : Option Assignment) → slice_get blocks other ≡ found → precedes blocks other index ≡ false
          → list_all (λ later. not (reads later.target reader.value)) (blocks_at blocks after) ≡ true
          → list_all (λ later. not (reads later.target reader.value)) (cons_option found (blocks_at blocks after)) ≡ true
      pick None is here rest = rest
      pick (Some writer) is here rest =
          and_from (not (reads writer.target reader.value)) (list_all (λ later. not (reads later.target reader.value)) (blocks_at blocks after))
          (unread blocks other index writer reader is hears apart.0 here) rest

is_ordered_from_arranged : (blocks : List Assignment) (indices : List ℕ) → IsDistinct nat_eq indices → is_arranged blocks indices [] ≡ true → is_ordered (blocks_at blocks indices) ≡ true
is_ordered_from_arranged blocks [] distinct arranged = refl
is_ordered_from_arranged blocks (index ∷ indices) distinct arranged =
    let parts = both (is_free blocks (indices ++ []) index) (is_arranged blocks indices []) arranged in
    let free : is_free blocks indices index ≡ true = subst (λ (others : List ℕ). is_free blocks others index ≡ true) (append-nil indices) parts.0 in
    let none : list_any (λ other. precedes blocks other index) indices ≡ false = not-true (list_any (λ other. precedes blocks other index) indices) free in
    pick (slice_get blocks index) refl (IsDistinct-head nat_eq index indices distinct) none (is_ordered_from_arranged blocks indices (IsDistinct-tail nat_eq index indices distinct) parts.1) where
      pick : (found : Option Assignment) → slice_get blocks index ≡ found → AllByRecursion (λ other. nat_eq index other ≡ false) indices
          → list_any (λ other. precedes blocks other index) indices ≡ false
          → is_ordered (blocks_at blocks indices) ≡ true → is_ordered (cons_option found (blocks_at blocks indices)) ≡ true
      pick None is apart none rest = rest
      pick (Some reader) is apart none rest =
          and_from (list_all (λ later. not (reads later.target reader.value)) (blocks_at blocks indices)) (is_ordered (blocks_at blocks indices))
          (none_read blocks index reader indices is apart none) rest

-- numbers one after another differ
apart_from_range : (count first index : ℕ) → index < first → AllByRecursion (λ other. nat_eq index other ≡ false) (range_with_len first count)
apart_from_range zero first index below = tt
apart_from_range (suc count) first index below = (grind (arith, nat_tests), apart_from_range count (first + 1) index (omega arith))

pub IsDistinct-range : (count first : ℕ) → IsDistinct nat_eq (range_with_len first count)
unfolding IsDistinct
IsDistinct-range zero first = tt
IsDistinct-range (suc count) first = (apart_from_range count (first + 1) first (omega arith), IsDistinct-range count (first + 1))

-- where none is left, the indices are an arrangement
pub IsArrangement-from_arranged : (blocks : List Assignment) (placed left : List ℕ) → length left ≡ 0 → IsPermutation (indices_of (length blocks)) (placed ++ left)
    → is_arranged blocks placed left ≡ true → IsArrangement blocks placed
IsArrangement-from_arranged blocks placed [] none moved arranged =
    let each : IsPermutation (indices_of (length blocks)) placed = subst (IsPermutation (indices_of (length blocks))) (append-nil placed) moved in
    record {
      each_once = each;
      ordered = is_ordered_from_arranged blocks placed
          (IsDistinct-IsPermutation nat_eq nat_eq_equiv.symm (indices_of (length blocks)) placed each (IsDistinct-range (length blocks) 0)) arranged;
    }
IsArrangement-from_arranged blocks placed (index ∷ left) none moved arranged = absurd (omega arith)

-- before the first round every index is left
pub all_left : (blocks : List Assignment) (placed left : List ℕ) → placed ≡ [] → left ≡ indices_of (length blocks)
    → (length left ≡ length blocks) × IsPermutation (indices_of (length blocks)) (placed ++ left) × (is_arranged blocks placed left ≡ true)
all_left blocks placed left none all = (
  ap length all ∙ length-range_with_len 0 (length blocks),
  subst (IsPermutation (indices_of (length blocks))) (sym (ap (λ (start : List ℕ). start ++ left) none ∙ all)) (IsPermutation-refl (indices_of (length blocks))),
  ap (λ (start : List ℕ). is_arranged blocks start left) none,
)

-- a round moves the first free index from those left to those placed
pub one_placed : (blocks : List Assignment) (placed left pushed rest : List ℕ) (slot index : ℕ) → Some slot ≡ position (is_free blocks left) left
    → index ≡ get_or left slot index → rest ≡ remove left slot → pushed ≡ placed ++ index ∷ []
    → IsPermutation (indices_of (length blocks)) (placed ++ left) → is_arranged blocks placed left ≡ true
    → (length rest + 1 ≡ length left) × IsPermutation (indices_of (length blocks)) (pushed ++ rest) × (is_arranged blocks pushed rest ≡ true)
one_placed blocks placed left pushed rest slot index first is removed moved each arranged =
    let where_free = position-Some (is_free blocks left) left slot index (sym first) in
    let free : is_free blocks left index ≡ true = subst (λ (p : ℕ). is_free blocks left p ≡ true) (sym is) where_free.1 in
    let more = IsPermutation-more (indices_of (length blocks)) placed left slot index where_free.0 is each in
    let both_moved : (placed ++ index ∷ []) ++ remove left slot ≡ pushed ++ rest = cc in (
      ap (λ (others : List ℕ). length others + 1) removed ∙ length-remove left slot where_free.0,
      subst (IsPermutation (indices_of (length blocks))) both_moved more,
      rw (moved, removed) (is_arranged_more blocks placed left slot index where_free.0 is free arranged),
    )

-- without blocks there is none at any index
blocks_at-none : (indices : List ℕ) → blocks_at [] indices ≡ []
blocks_at-none [] = refl
blocks_at-none (index ∷ indices) = blocks_at-none indices

-- the indices after the first are those of the blocks after it
blocks_at-after : (block : Assignment) (blocks : List Assignment) (first count : ℕ)
    → blocks_at (block ∷ blocks) (range_with_len (first + 1) count) ≡ blocks_at blocks (range_with_len first count)
blocks_at-after block blocks first zero = refl
blocks_at-after block blocks first (suc count) =
    let next : slice_get (block ∷ blocks) (first + 1) ≡ slice_get blocks first = rw add-one refl in
    ap (λ (found : Option Assignment). cons_option found (blocks_at (block ∷ blocks) (range_with_len (first + 1 + 1) count))) next
    ∙ ap (cons_option (slice_get blocks first)) (blocks_at-after block blocks (first + 1) count)

-- the blocks at their indices are the blocks
blocks_at-indices_of : (blocks : List Assignment) → blocks_at blocks (indices_of (length blocks)) ≡ blocks
blocks_at-indices_of [] = refl
blocks_at-indices_of (block ∷ blocks) = ap (λ (rest : List Assignment). block ∷ rest) (blocks_at-after block blocks 0 (length blocks) ∙ blocks_at-indices_of blocks)

-- where each index is that of a block, there is a block for each index
blocks_at-map : (blocks : List Assignment) (other : Assignment) (indices : List ℕ) → ((index : ℕ) → is_among index indices ≡ true → index < length blocks)
    → blocks_at blocks indices ≡ map (λ index. get_or blocks index other) indices
blocks_at-map blocks other [] within = refl
blocks_at-map blocks other (index ∷ indices) within =
    let here = slice_get-get_or blocks index other (within index (is_among_first index indices)) in
    ap (λ (found : Option Assignment). cons_option found (blocks_at blocks indices)) here
    ∙ ap (λ (rest : List Assignment). get_or blocks index other ∷ rest)
    (blocks_at-map blocks other indices (λ later is. within later (is_among_later later index indices is)))

-- one of the numbers from one on, so many, is below the last
below_range : (count first index : ℕ) → is_among index (range_with_len first count) ≡ true → index < first + count
below_range zero first index is = absurd (cc)
below_range (suc count) first index is = ⊎_elim
    (λ here. omega arith)
    (λ there. let rest = below_range count (first + 1) index there in omega arith)
    (is_among_cases index first (range_with_len (first + 1) count) is)

-- the blocks at the indices of an arrangement are the blocks in another order
pub blocks_at-IsPermutation : (blocks : List Assignment) (indices : List ℕ) → IsArrangement blocks indices → IsPermutation blocks (blocks_at blocks indices)
blocks_at-IsPermutation [] indices arranged = subst (IsPermutation []) (sym (blocks_at-none indices)) (IsPermutation-refl [])
blocks_at-IsPermutation (block ∷ after) indices arranged =
    let blocks : List Assignment = block ∷ after in
    let all : List ℕ = indices_of (length blocks) in
    let at : ℕ → Assignment = λ index. get_or blocks index block in
    let within : (index : ℕ) → is_among index all ≡ true → index < length blocks = λ index is. let low = below_range (length blocks) 0 index is in omega (arith, low) in
    let first : map at all ≡ blocks = sym (blocks_at-map blocks block all within) ∙ blocks_at-indices_of blocks in
    let second : map at indices ≡ blocks_at blocks indices = sym (blocks_at-map blocks block indices
    (λ index is. within index (list_any-IsPermutation (nat_eq index) all indices arranged.each_once ∙ is))) in
    subst (λ (start : List Assignment). IsPermutation start (blocks_at blocks indices)) first
    (subst (IsPermutation (map at all)) second (IsPermutation-map at all indices arranged.each_once))
