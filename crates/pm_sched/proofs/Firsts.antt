-- The first block of a rising row that is apart from a block.
use Rattle.std.proofs.Common.{◌≡◌, ℕ, suc, ◌<◌, ◌≤◌, ◌⊎◌, List, [], ◌∷◌, length, get_or, Bool, true, false, eqb, sym, subst, ⊎_elim, arith, eqb-true}
use Rattle.std.proofs.lemmas.Bool.{or_cases, cases_order}
use Rattle.pm_cons.specs.Orders.{has}
use Rattle.pm_sched.specs.LeastPair.{AreGreater}

pub place_of : (row : List ℕ) (c : ℕ) → has row c ≡ true → (i : ℕ) × (i < length row) × (get_or row i 0 ≡ c)
place_of [] c h = absurd (cc)
place_of (x ∷ xs) c h = ⊎_elim (λ (e : eqb x c ≡ true). (0, omega arith, eqb-true x c e)) (λ (e : has xs c ≡ true). let p = place_of xs c e in (suc p.0, omega (arith, p.1), p.2)) (or_cases (eqb x c) (has xs c) h)

-- none before the place is apart
abbrev pub NoneApart : (ℕ → ℕ → Bool) → List ℕ → ℕ → ℕ → Type 0
NoneApart r row a places = (i : ℕ) → i < places → r a (get_or row i 0) ≡ false → r (get_or row i 0) a ≡ false → ⊥

pub first_least : (r : ℕ → ℕ → Bool) (row : List ℕ) (count a place : ℕ) → AreGreater row a count →
    NoneApart r row a place → (c : ℕ) → has row c ≡ true → r a c ≡ false → r c a ≡ false → get_or row place 0 ≤ c
first_least r row count a place rising none c h p q = go (place_of row c h)
  where
    go : (i : ℕ) × (i < length row) × (get_or row i 0 ≡ c) → get_or row place 0 ≤ c
    go found = ⊎_elim (λ (e : place ≡ found.0). subst (λ (k : ℕ). get_or row k 0 ≤ c) (sym e) (let x : get_or row found.0 0 ≡ c = found.2 in omega arith))
        (λ (e : (place < found.0) ⊎ (found.0 < place)). ⊎_elim (λ (l : place < found.0). let x : get_or row found.0 0 ≡ c = found.2 in let y : get_or row place 0 < get_or row found.0 0 = rising.rises place found.0 l found.1 in omega arith)
        (λ (l : found.0 < place). absurd (none found.0 l (subst (λ (k : ℕ). r a k ≡ false) (sym found.2) p) (subst (λ (k : ℕ). r k a ≡ false) (sym found.2) q))) e) (cases_order place found.0)

pub first_none : (r : ℕ → ℕ → Bool) (row : List ℕ) (a places : ℕ) → length row ≤ places → NoneApart r row a places →
    (c : ℕ) → has row c ≡ true → r a c ≡ false → r c a ≡ false → ⊥
first_none r row a places le none c h p q = let found = place_of row c h in
    none found.0 (omega (arith, found.1)) (subst (λ (k : ℕ). r a k ≡ false) (sym found.2) p) (subst (λ (k : ℕ). r k a ≡ false) (sym found.2) q)
