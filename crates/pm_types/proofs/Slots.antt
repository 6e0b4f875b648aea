-- What is found for each block and method when bodies are taken from the last one on.
use Rattle.std.proofs.Common.{◌≡◌, ◌∙◌, ℕ, zero, suc, ◌+◌, ◌≤◌, ◌==◌, if◌then◌else◌, List, [], ◌∷◌, ◌++◌, Option, None, slice_set, replicate, refl, sym, ap, arith}
use Rattle.std.proofs.lemmas.Bool.{cond-true, cond-false}
use Rattle.std.proofs.lemmas.Bool.Decides.{nat_tests}
use Rattle.pm_types.specs.declared.bodies.TypedBody.{TypedBody}
use Rattle.pm_types.specs.declared.bodies.TypedBody.TheVariants as typed
use Rattle.pm_types.specs.declared.filling.Slots.{Slots}
use Rattle.pm_types.specs.Filled.{found, block_in, method_in, guard_in, slots_of, with_body}

-- bodies put in from the last one on
unfoldable pub with_all : List TypedBody → Slots → Slots
with_all [] s = s
with_all (t ∷ ts) s = with_body t (with_all ts s)

pub with_last : (ts : List TypedBody) (t : TypedBody) (s : Slots) → with_all (ts ++ t ∷ []) s ≡ with_all ts (with_body t s)
unfolding with_all
with_last [] t s = refl
with_last (u ∷ ts) t s = ap (with_body u) (with_last ts t s)

pub with_none : (s : Slots) → with_all [] s ≡ s
unfolding with_all
with_none s = refl

-- nothing is found yet
abbrev pub none_of : ℕ → ℕ → Slots
none_of blocks methods = record { blocks = replicate blocks None; methods = replicate methods None; guards = replicate methods None }

found_none : {A : Type 0} (at : ℕ → Option A) → ((j : ℕ) → at j ≡ None) → (k n : ℕ) → replicate n None ≡ found at k n
unfolding found
found_none at none k zero = refl
found_none at none k (suc n) = ap (λ x. x ∷ replicate n None) (sym (none k)) ∙ ap (λ l. at k ∷ l) (found_none at none (k + 1) n)

found_same : {A : Type 0} (f g : ℕ → Option A) (k n : ℕ) → ((j : ℕ) → k ≤ j → f j ≡ g j) → found f k n ≡ found g k n
unfolding found
found_same f g k zero same = refl
found_same f g k (suc n) same =
    ap (λ x. x ∷ found f (k + 1) n) (same k (omega arith))
    ∙ ap (λ l. g k ∷ l) (found_same f g (k + 1) n (λ j le. same j (omega (arith, le))))

found_set : {A : Type 0} (at : ℕ → Option A) (k n i : ℕ) (v : Option A)
    → slice_set (found at k n) i v ≡ found (λ j. if k + i == j then v else at j) k n
unfolding found
found_set at k zero i v = refl
found_set at k (suc n) zero v =
    ap (λ x. x ∷ found at (k + 1) n) (sym (cond-true (k + 0 == k) v (at k) (grind (arith, nat_tests))))
    ∙ ap (λ l. (if k + 0 == k then v else at k) ∷ l)
    (found_same at (λ j. if k + 0 == j then v else at j) (k + 1) n (λ j le. sym (cond-false (k + 0 == j) v (at j) (grind (arith, nat_tests, le)))))
found_set at k (suc n) (suc i) v =
    ap (λ x. x ∷ slice_set (found at (k + 1) n) i v) (sym (cond-false (k + suc i == k) v (at k) (grind (arith, nat_tests))))
    ∙ ap (λ l. (if k + suc i == k then v else at k) ∷ l)
    (found_set at (k + 1) n i v
    ∙ found_same (λ j. if k + 1 + i == j then v else at j) (λ j. if k + suc i == j then v else at j) (k + 1) n
    (λ j le. ap (λ m. if m == j then v else at j) (omega arith)))

set_first : {A : Type 0} (at more : ℕ → Option A) (n i : ℕ) (v : Option A) → ((j : ℕ) → more j ≡ (if i == j then v else at j))
    → slice_set (found at 0 n) i v ≡ found more 0 n
set_first at more n i v same =
    let this : 0 + i ≡ i = omega arith in
    found_set at 0 n i v
    ∙ found_same (λ j. if 0 + i == j then v else at j) more 0 n (λ j le. ap (λ m. if m == j then v else at j) this ∙ sym (same j))

-- a body more
one_more : (t : TypedBody) (ts : List TypedBody) (b m : ℕ) → with_body t (slots_of b m ts) ≡ slots_of b m (t ∷ ts)
unfolding slots_of block_in method_in guard_in
one_more (typed.Block i out temps) ts b m =
    ap (λ l. record { blocks = l; methods = found (method_in ts) 0 m; guards = found (guard_in ts) 0 m })
    (set_first (block_in ts) (block_in (typed.Block i out temps ∷ ts)) b i _ (λ j. refl))
one_more (typed.Method i out temps answer) ts b m =
    ap (λ l. record { blocks = found (block_in ts) 0 b; methods = l; guards = found (guard_in ts) 0 m })
    (set_first (method_in ts) (method_in (typed.Method i out temps answer ∷ ts)) m i _ (λ j. refl))
one_more (typed.Guard i e) ts b m =
    ap (λ l. record { blocks = found (block_in ts) 0 b; methods = found (method_in ts) 0 m; guards = l })
    (set_first (guard_in ts) (guard_in (typed.Guard i e ∷ ts)) m i _ (λ j. refl))

pub all_found : (ts : List TypedBody) (b m : ℕ) → with_all ts (none_of b m) ≡ slots_of b m ts
unfolding with_all slots_of block_in method_in guard_in
all_found [] b m =
    ap (λ l. record { blocks = l; methods = replicate m None; guards = replicate m None }) (found_none (block_in []) (λ j. refl) 0 b)
    ∙ ap (λ l. record { blocks = found (block_in []) 0 b; methods = l; guards = replicate m None }) (found_none (method_in []) (λ j. refl) 0 m)
    ∙ ap (λ l. record { blocks = found (block_in []) 0 b; methods = found (method_in []) 0 m; guards = l }) (found_none (guard_in []) (λ j. refl) 0 m)
all_found (t ∷ ts) b m = ap (with_body t) (all_found ts b m) ∙ one_more t ts b m
