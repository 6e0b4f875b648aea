-- Tests over the numbers below a bound.
use Rattle.std.proofs.Common.{◌≡◌, ℕ, zero, suc, ◌+◌, ◌<◌, ◌≤◌, ◌⊎◌, Bool, true, false, cond, Option, Some, None, refl, sym, ap, ap₂, subst, ◌∙◌, inl, inr, ⊎_elim, arith}
use Rattle.std.proofs.lemmas.Bool.{and_parts, and_from, or_cases, or_left, or_right, both_ways, cases_order}
use Rattle.pm_cons.specs.Below.{all_below, any_below, count_below, least_below, or_else}

pub below_suc : (k n : ℕ) → k < suc n → (k ≡ n) ⊎ (k < n)
below_suc k n h = grind arith

-- what holds of n and of each number below n holds of each number up to n
pub upto : (n : ℕ) (P : ℕ → Type 0) → P n → ((k : ℕ) → k < n → P k) → (k : ℕ) → k < suc n → P k
upto n P here below k lt = ⊎_elim (λ (e : k ≡ n). subst P (sym e) here) (λ (l : k < n). below k l) (below_suc k n lt)

pub all_below_at : (n : ℕ) (t : ℕ → Bool) → all_below n t ≡ true → (k : ℕ) → k < n → t k ≡ true
all_below_at zero t h k lt = absurd (omega arith)
all_below_at (suc n) t h k lt =
    upto n (λ k. t k ≡ true) (and_parts _ _ h).0 (all_below_at n t (and_parts _ _ h).1) k lt

pub all_below_from : (n : ℕ) (t : ℕ → Bool) → ((k : ℕ) → k < n → t k ≡ true) → all_below n t ≡ true
all_below_from zero t h = refl
all_below_from (suc n) t h = and_from _ _ (h n (omega arith)) (all_below_from n t (λ k lt. h k (omega arith)))

pub any_below_from : (n : ℕ) (t : ℕ → Bool) (k : ℕ) → k < n → t k ≡ true → any_below n t ≡ true
any_below_from zero t k lt h = absurd (omega arith)
any_below_from (suc n) t k lt h =
    ⊎_elim (λ (e : k ≡ n). or_left _ _ (subst (λ (j : ℕ). t j ≡ true) e h))
    (λ (l : k < n). or_right _ _ (any_below_from n t k l h)) (below_suc k n lt)

pub any_below_at : (n : ℕ) (t : ℕ → Bool) → any_below n t ≡ true → (k : ℕ) × (k < n) × (t k ≡ true)
any_below_at zero t h = absurd (cc)
any_below_at (suc n) t h =
    ⊎_elim (λ (e : t n ≡ true). (n, omega arith, e))
    (λ (e : any_below n t ≡ true). let found = any_below_at n t e in (found.0, omega arith, found.2))
    (or_cases _ _ h)

pub least_below_some : (n : ℕ) (t : ℕ → Bool) (k : ℕ) → least_below n t ≡ Some k → (k < n) × (t k ≡ true)
least_below_some zero t k e = absurd (cc)
least_below_some (suc n) t k e = go (least_below n t) refl e (least_below_some n t k)
  where
    here : (b : Bool) → t n ≡ b → cond b (Some n) None ≡ Some k → (k < suc n) × (t k ≡ true)
    here true is e = let same : n ≡ k = cc in (omega arith, subst (λ (j : ℕ). t j ≡ true) same is)
    here false is e = absurd (cc)

    go : (o : Option ℕ) → least_below n t ≡ o → or_else o (cond (t n) (Some n) None) ≡ Some k →
        (least_below n t ≡ Some k → (k < n) × (t k ≡ true)) → (k < suc n) × (t k ≡ true)
    go (Some j) is e ih = let got = ih (is ∙ e) in (omega arith, got.1)
    go None is e ih = here (t n) refl e

pub least_below_none : (n : ℕ) (t : ℕ → Bool) → least_below n t ≡ None → (k : ℕ) → k < n → t k ≡ false
least_below_none zero t e k lt = absurd (omega arith)
least_below_none (suc n) t e k lt = go (least_below n t) refl e (least_below_none n t) k lt
  where
    here : (b : Bool) → t n ≡ b → cond b (Some n) None ≡ None → t n ≡ false
    here true is e = absurd (cc)
    here false is e = is

    go : (o : Option ℕ) → least_below n t ≡ o → or_else o (cond (t n) (Some n) None) ≡ None →
        (least_below n t ≡ None → (k : ℕ) → k < n → t k ≡ false) → (k : ℕ) → k < suc n → t k ≡ false
    go (Some j) is e ih k lt = absurd (cc)
    go None is e ih k lt = upto n (λ k. t k ≡ false) (here (t n) refl e) (ih is) k lt

pub least_below_least : (n : ℕ) (t : ℕ → Bool) (k : ℕ) → least_below n t ≡ Some k → (j : ℕ) → j < k → t j ≡ false
least_below_least zero t k e j lt = absurd (cc)
least_below_least (suc n) t k e j lt = go (least_below n t) refl e (least_below_least n t k)
  where
    here : (b : Bool) → t n ≡ b → cond b (Some n) None ≡ Some k → n ≡ k
    here true is e = cc
    here false is e = absurd (cc)

    go : (o : Option ℕ) → least_below n t ≡ o → or_else o (cond (t n) (Some n) None) ≡ Some k →
        (least_below n t ≡ Some k → (j : ℕ) → j < k → t j ≡ false) → t j ≡ false
    go (Some i) is e ih = ih (is ∙ e) j lt
    go None is e ih = let same : n ≡ k = here (t n) refl e in least_below_none n t is j (omega arith)

pub least_below_only : (n : ℕ) (t : ℕ → Bool) (w : ℕ) → w < n → t w ≡ true →
    ((k : ℕ) → k < n → t k ≡ true → k ≡ w) → least_below n t ≡ Some w
least_below_only n t w lt is only = go (least_below n t) refl
  where
    go : (o : Option ℕ) → least_below n t ≡ o → least_below n t ≡ Some w
    go (Some k) e = let got = least_below_some n t k e in e ∙ ap Some (only k got.0 got.1)
    go None e = absurd (both_ways (t w) (least_below_none n t e w lt) is)

pub least_below_empty : (n : ℕ) (t : ℕ → Bool) → ((k : ℕ) → k < n → t k ≡ false) → least_below n t ≡ None
least_below_empty n t none = go (least_below n t) refl
  where
    go : (o : Option ℕ) → least_below n t ≡ o → least_below n t ≡ None
    go (Some k) e = let got = least_below_some n t k e in absurd (both_ways (t k) (none k got.0) got.1)
    go None e = e

pub count_below_le : (n : ℕ) (t : ℕ → Bool) → count_below n t ≤ n
count_below_le zero t = omega arith
count_below_le (suc n) t = go (t n) (count_below_le n t)
  where
    go : (b : Bool) → count_below n t ≤ n → cond b 1 0 + count_below n t ≤ suc n
    go true h = omega arith
    go false h = omega arith

pub count_below_sub : (n : ℕ) (t u : ℕ → Bool) → ((k : ℕ) → k < n → t k ≡ true → u k ≡ true) →
    count_below n t ≤ count_below n u
count_below_sub zero t u h = omega arith
count_below_sub (suc n) t u h = go (t n) (u n) refl refl (count_below_sub n t u (λ k lt. h k (omega arith)))
  where
    go : (a b : Bool) → t n ≡ a → u n ≡ b → count_below n t ≤ count_below n u →
        cond a 1 0 + count_below n t ≤ cond b 1 0 + count_below n u
    go true true p q ih = omega arith
    go false true p q ih = omega arith
    go false false p q ih = omega arith
    go true false p q ih = absurd (both_ways (u n) q (h n (omega arith) p))

-- the count rises if all that passed still pass, and one more does
pub count_below_lt : (n : ℕ) (t u : ℕ → Bool) → ((k : ℕ) → k < n → t k ≡ true → u k ≡ true) → (w : ℕ) → w < n →
    t w ≡ false → u w ≡ true → count_below n t < count_below n u
count_below_lt zero t u h w lt fails passes = absurd (omega arith)
count_below_lt (suc n) t u h w lt fails passes =
    ⊎_elim at (below (λ l. count_below_lt n t u sub w l fails passes)) (below_suc w n lt)
  where
    sub : (k : ℕ) → k < n → t k ≡ true → u k ≡ true
    sub k lt = h k (omega arith)

    at : w ≡ n → cond (t n) 1 0 + count_below n t < cond (u n) 1 0 + count_below n u
    at e = let le : count_below n t ≤ count_below n u = count_below_sub n t u sub in
        rw (subst (λ (k : ℕ). t k ≡ false) e fails, subst (λ (k : ℕ). u k ≡ true) e passes) (omega arith)

    go : (a b : Bool) → t n ≡ a → u n ≡ b → count_below n t < count_below n u →
        cond a 1 0 + count_below n t < cond b 1 0 + count_below n u
    go true true p q ih = omega arith
    go false true p q ih = omega arith
    go false false p q ih = omega arith
    go true false p q ih = absurd (both_ways (u n) q (h n (omega arith) p))

    below : (w < n → count_below n t < count_below n u) → w < n →
        cond (t n) 1 0 + count_below n t < cond (u n) 1 0 + count_below n u
    below ih l = go (t n) (u n) refl refl (ih l)

pub least_below_at : (n : ℕ) (t : ℕ → Bool) (k : ℕ) → k < n → t k ≡ true → ((j : ℕ) → j < k → t j ≡ false) →
    least_below n t ≡ Some k
least_below_at n t k lt is before = go (least_below n t) refl
  where
    same : (j : ℕ) → least_below n t ≡ Some j → (j ≡ k) ⊎ ((j < k) ⊎ (k < j)) → j ≡ k
    same j e (inl x) = x
    same j e (inr (inl x)) = absurd (both_ways (t j) (before j x) (least_below_some n t j e).1)
    same j e (inr (inr x)) = absurd (both_ways (t k) (least_below_least n t j e k x) is)

    go : (o : Option ℕ) → least_below n t ≡ o → least_below n t ≡ Some k
    go (Some j) e = e ∙ ap Some (same j e (cases_order j k))
    go None e = absurd (both_ways (t k) (least_below_none n t e k lt) is)

pub count_below_none : (n : ℕ) → count_below n (λ _. false) ≡ 0
count_below_none zero = refl
count_below_none (suc n) = let ih : count_below n (λ _. false) ≡ 0 = count_below_none n in omega arith

pub count_below_full : (n : ℕ) (t : ℕ → Bool) → ((k : ℕ) → k < n → t k ≡ true) → count_below n t ≡ n
count_below_full zero t all = refl
count_below_full (suc n) t all =
    let ih : count_below n t ≡ n = count_below_full n t (λ k lt. all k (omega arith)) in rw (all n (omega arith))
    (omega arith)

pub count_below_all : (n : ℕ) (t : ℕ → Bool) → count_below n t ≡ n → (k : ℕ) → k < n → t k ≡ true
count_below_all zero t e k lt = absurd (omega arith)
count_below_all (suc n) t e k lt = go (t n) refl e (count_below_all n t) k lt
  where
    go : (b : Bool) → t n ≡ b → cond b 1 0 + count_below n t ≡ suc n →
        (count_below n t ≡ n → (k : ℕ) → k < n → t k ≡ true) → (k : ℕ) → k < suc n → t k ≡ true
    go true is e ih k lt = upto n (λ k. t k ≡ true) is (ih (omega arith)) k lt
    go false is e ih k lt = let le : count_below n t ≤ n = count_below_le n t in absurd (omega arith)

pub count_below_same : (n : ℕ) (t u : ℕ → Bool) → ((k : ℕ) → k < n → t k ≡ u k) → count_below n t ≡ count_below n u
count_below_same zero t u h = refl
count_below_same (suc n) t u h =
    ap₂ (λ (b : Bool) (m : ℕ). cond b 1 0 + m) (h n (omega arith))
    (count_below_same n t u (λ k lt. h k (omega arith)))

-- the count rises by one if exactly one more passes
pub count_below_more : (n : ℕ) (t u : ℕ → Bool) (w : ℕ) → w < n → t w ≡ false → u w ≡ true →
    ((k : ℕ) → ¬ (k ≡ w) → t k ≡ u k) → count_below n u ≡ suc (count_below n t)
count_below_more zero t u w lt fails passes same = absurd (omega arith)
count_below_more (suc n) t u w lt fails passes same =
    ⊎_elim at (below (λ l. count_below_more n t u w l fails passes same)) (below_suc w n lt)
  where
    at : w ≡ n → cond (u n) 1 0 + count_below n u ≡ suc (cond (t n) 1 0 + count_below n t)
    at e = let ih : count_below n t ≡ count_below n u = count_below_same n t u (λ k lt. same k (λ f. omega arith)) in
        rw (subst (λ (k : ℕ). t k ≡ false) e fails, subst (λ (k : ℕ). u k ≡ true) e passes) (omega arith)

    go : (b : Bool) → count_below n u ≡ suc (count_below n t) →
        cond b 1 0 + count_below n u ≡ suc (cond b 1 0 + count_below n t)
    go true ih = omega arith
    go false ih = omega arith

    below : (w < n → count_below n u ≡ suc (count_below n t)) → w < n →
        cond (u n) 1 0 + count_below n u ≡ suc (cond (t n) 1 0 + count_below n t)
    below ih l = rw (same n (λ e. omega arith)) (go (u n) (ih l))
