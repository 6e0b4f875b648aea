-- Where no block is free, precedence leads in a loop.
use Rattle.std.proofs.Common.{◌≡◌, ◌<◌, ◌≤◌, ◌+◌, ◌==◌, ◌⊎◌, inl, inr, ℕ, zero, suc, Bool, true, false, not, List, [], ◌∷◌, length, refl, sym, subst, arith, ⊎_elim}
use Rattle.std.specs.Prelude.{Option, None, Some, nat_eq, slice_get}
use Rattle.std.specs.List.{list_any, position, position_or_len, AllByRecursion, IsDistinct}
use Rattle.std.specs.Option.{option_map_or}
use Rattle.std.specs.Cmp.{nat_eq_equiv}
use Rattle.std.proofs.lemmas.Bool.{cases_Bool, or_cases, or_parts, or_left, or_right, eqb-true, not-true, not-false}
use Rattle.std.proofs.lemmas.Bool.Decides.{nat_tests}
use Rattle.std.proofs.lemmas.Map.Keys.{IsDistinct-cons}
use Rattle.std.proofs.lemmas.Map.Made.{length-le_from_is_member}
use Rattle.pm_job.specs.declared.component.Assignment.{Assignment}
use Rattle.pm_job.specs.Reads.{reads}
use Rattle.pm_job.specs.Precedence.{Precedes, Leads, HasLoop, precedes, is_free}
use Rattle.pm_job.specs.Precedence.Leads.{one_step, more_steps}
use Rattle.pm_job.proofs.Widths.{both}

-- an index is one of these
abbrev pub is_among : ℕ → List ℕ → Bool
is_among index indices = list_any (nat_eq index) indices

pub is_among_first : (index : ℕ) (indices : List ℕ) → is_among index (index ∷ indices) ≡ true
is_among_first index indices = or_left (nat_eq index index) (is_among index indices) (nat_eq_equiv.refl index)

pub is_among_later : (index other : ℕ) (indices : List ℕ) → is_among index indices ≡ true → is_among index (other ∷ indices) ≡ true
is_among_later index other indices is = or_right (nat_eq index other) (is_among index indices) is

-- one of two lists has the index, or it is the first
pub is_among_cases : (index other : ℕ) (indices : List ℕ) → is_among index (other ∷ indices) ≡ true → (index ≡ other) ⊎ (is_among index indices ≡ true)
is_among_cases index other indices is =
    ⊎_elim (λ here. inl (eqb-true index other here)) (λ there. inr there) (or_cases (nat_eq index other) (is_among index indices) is)

-- a test that some index passes finds one
found : (test : ℕ → Bool) (indices : List ℕ) → list_any test indices ≡ true → (index : ℕ) × (is_among index indices ≡ true) × (test index ≡ true)
found test [] is = absurd (cc)
found test (index ∷ indices) is = ⊎_elim
    (λ here. (index, is_among_first index indices, here))
    (λ there. let rest = found test indices there in (rest.0, is_among_later rest.0 index indices rest.1, rest.2))
    (or_cases (test index) (list_any test indices) is)

-- where no first index passes a test, none does
none_before : (test : ℕ → Bool) (indices : List ℕ) (index : ℕ) → length indices ≤ position_or_len test indices → is_among index indices ≡ true → test index ≡ false
none_before test [] index long is = absurd (cc)
none_before test (first ∷ indices) index long is = ⊎_elim
    (λ passes. let short : position_or_len test (first ∷ indices) ≡ 0 = rw passes refl in absurd (omega arith))
    (λ fails.
    let more : position_or_len test (first ∷ indices) ≡ 1 + position_or_len test indices = rw fails refl in ⊎_elim
    (λ here. subst (λ (p : ℕ). test p ≡ false) (sym here) fails)
    (λ there. none_before test indices index (omega arith) there)
    (is_among_cases index first indices is))
    (cases_Bool (test first))

none_passes : (test : ℕ → Bool) (indices : List ℕ) (index : ℕ) → position test indices ≡ None → is_among index indices ≡ true → test index ≡ false
none_passes test indices index none is =
    let long : length indices ≤ position_or_len test indices = grind (arith, nat_tests) in none_before test indices index long is

-- a test of what may be there
pub some_of : {X : Type 0} (test : X → Bool) (found : Option X) → option_map_or test found false ≡ true → (x : X) × (found ≡ Some x) × (test x ≡ true)
some_of test None is = absurd (cc)
some_of test (Some x) is = (x, refl, is)

-- what the test for precedence finds
pub Precedes-from_test : (blocks : List Assignment) (first second : ℕ) → precedes blocks first second ≡ true → Precedes blocks first second
Precedes-from_test blocks first second is =
    let parts = both (not (first == second))
    (option_map_or (λ (writer : Assignment). option_map_or (λ (reader : Assignment). reads writer.target reader.value) (slice_get blocks second) false) (slice_get blocks first) false) is in
    let writes = some_of (λ (writer : Assignment). option_map_or (λ (reader : Assignment). reads writer.target reader.value) (slice_get blocks second) false) (slice_get blocks first) parts.1 in
    let hears = some_of (λ (reader : Assignment). reads writes.0.target reader.value) (slice_get blocks second) writes.2 in
    let apart : (first == second) ≡ false = not-true (first == second) parts.0 in
    record {
      differ = λ (same : first ≡ second). let yes : (first == second) ≡ true = grind (arith, nat_tests) in absurd (cc);
      writer = writes.0;
      reader = hears.0;
      writes = writes.1;
      hears = hears.1;
      reads_it = hears.2;
    }

-- an index that is none of these differs from each
apart_from : (index : ℕ) (indices : List ℕ) → is_among index indices ≡ false → AllByRecursion (λ other. nat_eq index other ≡ false) indices
apart_from index [] is = tt
apart_from index (other ∷ indices) is = let parts = or_parts (nat_eq index other) (is_among index indices) is in (parts.0, apart_from index indices parts.1)

-- Each of the indices has one before it among them. The walk back from an index, which has come by the indices of
-- `walked`, comes to one of these again, since they are no more than all.
walk : (blocks : List Assignment) (indices : List ℕ)
    → ((second : ℕ) → is_among second indices ≡ true → (first : ℕ) × (is_among first indices ≡ true) × Precedes blocks first second)
    → (steps : ℕ) (index : ℕ) (walked : List ℕ) → IsDistinct nat_eq (index ∷ walked)
    → ((other : ℕ) → is_among other (index ∷ walked) ≡ true → is_among other indices ≡ true)
    → ((other : ℕ) → is_among other walked ≡ true → Leads blocks index other)
    → length (index ∷ walked) + steps ≡ length indices + 1 → HasLoop blocks
walk blocks indices each zero index walked distinct within leads count =
    let few = length-le_from_is_member nat_eq_equiv (index ∷ walked) indices distinct within in absurd (omega arith)
walk blocks indices each (suc steps) index walked distinct within leads count =
    let next = each index (within index (is_among_first index walked)) in
    let further : (other : ℕ) → is_among other (index ∷ walked) ≡ true → Leads blocks next.0 other = λ other is. ⊎_elim
    (λ here. subst (λ (p : ℕ). Leads blocks next.0 p) (sym here) (one_step next.0 index next.2))
    (λ there. more_steps next.0 index other next.2 (leads other there))
    (is_among_cases other index walked is) in ⊎_elim
    (λ met. (next.0, further next.0 met))
    (λ new. walk blocks indices each steps next.0 (index ∷ walked)
    (IsDistinct-cons nat_eq next.0 (index ∷ walked) (apart_from next.0 (index ∷ walked) new) distinct)
    (λ other is. ⊎_elim
    (λ here. subst (λ (p : ℕ). is_among p indices ≡ true) (sym here) next.1)
    (λ there. within other there)
    (is_among_cases other next.0 (index ∷ walked) is))
    further (omega arith))
    (cases_Bool (is_among next.0 (index ∷ walked)))

-- where none of the indices is free, there is a loop
pub HasLoop-from_none_free : (blocks : List Assignment) (indices : List ℕ) → 0 < length indices → position (is_free blocks indices) indices ≡ None → HasLoop blocks
unfolding IsDistinct
HasLoop-from_none_free blocks [] some none = absurd (omega arith)
HasLoop-from_none_free blocks (index ∷ indices) some none =
    walk blocks (index ∷ indices)
    (λ second is.
    let bound = none_passes (is_free blocks (index ∷ indices)) (index ∷ indices) second none is in
    let first = found (λ other. precedes blocks other second) (index ∷ indices) (not-false (list_any (λ other. precedes blocks other second) (index ∷ indices)) bound) in
    (first.0, first.1, Precedes-from_test blocks first.0 second first.2))
    (length (index ∷ indices)) index [] (IsDistinct-cons nat_eq index [] tt tt)
    (λ other is. ⊎_elim (λ here. subst (λ (p : ℕ). is_among p (index ∷ indices) ≡ true) (sym here) (is_among_first index indices)) (λ there. absurd (cc)) (is_among_cases other index [] is))
    (λ other is. absurd (cc)) (omega arith)
