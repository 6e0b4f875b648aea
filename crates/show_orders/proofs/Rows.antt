-- Rows of blocks that are made one after another.
use Rattle.std.proofs.Common.{◌≡◌, ℕ, zero, suc, ◌+◌, ◌<◌, ◌≤◌, ◌⊎◌, List, [], ◌∷◌, ◌++◌, length, get_or, true, false, eqb, refl, sym, ap, subst, ◌∙◌, inl, inr, ⊎_elim, add-one, arith, eqb-true}
use Rattle.std.proofs.lemmas.Bool.{or_cases, both_ways, cases_lt}
use Rattle.std.proofs.lemmas.List.Folds.{list_any-append}
use Rattle.std.proofs.Math.ListN.{get_or-eq_default}
use Rattle.pm_design.specs.declared.plan.Edges.{Edges}
use Rattle.pm_cons.specs.Edges.{AreEdges, is_listed}
use Rattle.pm_cons.specs.Orders.{has}
use Rattle.pm_sched.specs.LeastPair.{AreConflicts, AreGreater}

-- each number of the list is below the bound
abbrev pub AreBelow : ℕ → List ℕ → Type 0
AreBelow n row = (b : ℕ) → has row b ≡ true → b < n

pub more_below : (n : ℕ) (row : List ℕ) (x : ℕ) → AreBelow n row → x < n → AreBelow n (row ++ x ∷ [])
more_below n row x below lt b h =
    ⊎_elim (λ (e : has row b ≡ true). below b e)
    (λ (e : has (x ∷ []) b ≡ true). ⊎_elim (λ (s : eqb x b ≡ true). subst (λ (k : ℕ). k < n) (eqb-true x b s) lt) (λ (s : false ≡ true). absurd (both_ways false refl s)) (or_cases (eqb x b) false e))
    (or_cases (has row b) (has (x ∷ []) b) (sym (list_any-append (λ k. eqb k b) row (x ∷ [])) ∙ h))

-- so many rows, each of numbers below the bound
pub record AreRows (n : ℕ) (rows : List (List ℕ)) (made : ℕ) : Type 0 where
  pub size : length rows ≡ made
  pub below : (a : ℕ) → AreBelow n (get_or rows a [])

pub none_made : (n : ℕ) → AreRows n [] 0
none_made n = record { size = refl; below = λ a b h. absurd (both_ways false refl h) }

length_more : (rows : List (List ℕ)) (row : List ℕ) → length (rows ++ row ∷ []) ≡ suc (length rows)
length_more [] row = refl
length_more (x ∷ xs) row = ap suc (length_more xs row)

rows_more : (n : ℕ) (rows : List (List ℕ)) (row : List ℕ) → ((a : ℕ) → AreBelow n (get_or rows a [])) →
    AreBelow n row → (a : ℕ) → AreBelow n (get_or (rows ++ row ∷ []) a [])
rows_more n [] row all below zero = below
rows_more n [] row all below (suc a) = λ b h. absurd (both_ways false refl h)
rows_more n (x ∷ xs) row all below zero = all zero
rows_more n (x ∷ xs) row all below (suc a) = rows_more n xs row (λ k. all (suc k)) below a

pub more_made : (n : ℕ) (rows : List (List ℕ)) (row : List ℕ) (made : ℕ) → AreRows n rows made → AreBelow n row →
    AreRows n (rows ++ row ∷ []) (made + 1)
more_made n rows row made are below = record {
  size = length_more rows row ∙ (ap suc are.size ∙ sym (add-one made));
  below = rows_more n rows row are.below below;
}

-- rows for all blocks are the edges of blocks
pub all_made : (edges : Edges) (made : ℕ) → AreRows edges.count edges.after made → made ≡ edges.count → AreEdges edges
all_made edges made are same = record {
  rows = are.size ∙ same;
  precedence = λ a b h. (known a b h (cases_lt a edges.count), are.below a b h);
}
  where
    known : (a b : ℕ) → is_listed edges.after a b ≡ true → (a < edges.count) ⊎ (edges.count ≤ a) → a < edges.count
    known a b h (inl lt) = lt
    known a b h (inr ge) = absurd
        (both_ways (has [] b) refl
        (subst (λ (row : List ℕ). has row b ≡ true)
        (get_or-eq_default edges.after [] {n = a} (subst (λ (n : ℕ). n ≤ a) (sym (are.size ∙ same)) ge)) h))

-- ---- conflicts

-- what is at a place of a list with one more element
at_more : (row : List ℕ) (x i : ℕ) → i < length (row ++ x ∷ []) →
    ((i < length row) × (get_or (row ++ x ∷ []) i 0 ≡ get_or row i 0)) ⊎ ((i ≡ length row) × (get_or (row ++ x ∷ []) i 0 ≡ x))
at_more [] x zero lt = inr (refl, refl)
at_more [] x (suc i) lt = absurd (omega arith)
at_more (y ∷ row) x zero lt = inl (omega arith, refl)
at_more (y ∷ row) x (suc i) lt = go (at_more row x i (omega (arith, lt)))
  where
    go : ((i < length row) × (get_or (row ++ x ∷ []) i 0 ≡ get_or row i 0)) ⊎ ((i ≡ length row) × (get_or (row ++ x ∷ []) i 0 ≡ x)) →
        ((suc i < suc (length row)) × (get_or (row ++ x ∷ []) i 0 ≡ get_or row i 0)) ⊎ ((suc i ≡ suc (length row)) × (get_or (row ++ x ∷ []) i 0 ≡ x))
    go (inl h) = inl (omega (arith, h.0), h.1)
    go (inr h) = inr (ap suc h.0, h.1)

-- greater blocks that rise, all below the next one
pub record AreGreaterBelow (row : List ℕ) (a count next : ℕ) : Type 0 where
  pub greater : AreGreater row a count
  pub below : (i : ℕ) → i < length row → get_or row i 0 < next

pub none_greater : (a count next : ℕ) → AreGreaterBelow [] a count next
none_greater a count next = record {
  greater = record {
    known = λ i lt. absurd (omega (arith, lt));
    greater = λ i lt. absurd (omega (arith, lt));
    rises = λ i j lt within. absurd (omega (arith, within));
  };
  below = λ i lt. absurd (omega (arith, lt));
}

-- the next block is passed over
pub pass_over : (row : List ℕ) (a count next : ℕ) → AreGreaterBelow row a count next → AreGreaterBelow row a count (next + 1)
pass_over row a count next are = record {
  greater = are.greater;
  below = λ i lt. let less : get_or row i 0 < next = are.below i lt in omega (arith, less);
}

-- the next block is added
pub more_greater : (row : List ℕ) (a count next : ℕ) → a < next → next < count → AreGreaterBelow row a count next →
    AreGreaterBelow (row ++ next ∷ []) a count (next + 1)
more_greater row a count next above within are = record {
  greater = record { known = known; greater = greater; rises = rises };
  below = below;
}
  where
    known : (i : ℕ) → i < length (row ++ next ∷ []) → get_or (row ++ next ∷ []) i 0 < count
    known i lt = go (at_more row next i lt)
      where
        go : ((i < length row) × (get_or (row ++ next ∷ []) i 0 ≡ get_or row i 0)) ⊎ ((i ≡ length row) × (get_or (row ++ next ∷ []) i 0 ≡ next)) → get_or (row ++ next ∷ []) i 0 < count
        go (inl h) = subst (λ (n : ℕ). n < count) (sym h.1) (are.greater.known i h.0)
        go (inr h) = subst (λ (n : ℕ). n < count) (sym h.1) within

    greater : (i : ℕ) → i < length (row ++ next ∷ []) → a < get_or (row ++ next ∷ []) i 0
    greater i lt = go (at_more row next i lt)
      where
        go : ((i < length row) × (get_or (row ++ next ∷ []) i 0 ≡ get_or row i 0)) ⊎ ((i ≡ length row) × (get_or (row ++ next ∷ []) i 0 ≡ next)) → a < get_or (row ++ next ∷ []) i 0
        go (inl h) = subst (λ (n : ℕ). a < n) (sym h.1) (are.greater.greater i h.0)
        go (inr h) = subst (λ (n : ℕ). a < n) (sym h.1) above

    below : (i : ℕ) → i < length (row ++ next ∷ []) → get_or (row ++ next ∷ []) i 0 < next + 1
    below i lt = go (at_more row next i lt)
      where
        go : ((i < length row) × (get_or (row ++ next ∷ []) i 0 ≡ get_or row i 0)) ⊎ ((i ≡ length row) × (get_or (row ++ next ∷ []) i 0 ≡ next)) → get_or (row ++ next ∷ []) i 0 < next + 1
        go (inl h) = let less : get_or row i 0 < next = are.below i h.0 in subst (λ (n : ℕ). n < next + 1) (sym h.1) (omega (arith, less))
        go (inr h) = subst (λ (n : ℕ). n < next + 1) (sym h.1) (omega arith)

    rises : (i j : ℕ) → i < j → j < length (row ++ next ∷ []) → get_or (row ++ next ∷ []) i 0 < get_or (row ++ next ∷ []) j 0
    rises i j lt within = go (at_more row next i (omega (arith, lt, within))) (at_more row next j within)
      where
        go : ((i < length row) × (get_or (row ++ next ∷ []) i 0 ≡ get_or row i 0)) ⊎ ((i ≡ length row) × (get_or (row ++ next ∷ []) i 0 ≡ next)) →
            ((j < length row) × (get_or (row ++ next ∷ []) j 0 ≡ get_or row j 0)) ⊎ ((j ≡ length row) × (get_or (row ++ next ∷ []) j 0 ≡ next)) →
            get_or (row ++ next ∷ []) i 0 < get_or (row ++ next ∷ []) j 0
        go (inl h) (inl k) = subst (λ (n : ℕ). n < get_or (row ++ next ∷ []) j 0) (sym h.1) (subst (λ (n : ℕ). get_or row i 0 < n) (sym k.1) (are.greater.rises i j lt k.0))
        go (inl h) (inr k) = subst (λ (n : ℕ). n < get_or (row ++ next ∷ []) j 0) (sym h.1) (subst (λ (n : ℕ). get_or row i 0 < n) (sym k.1) (are.below i h.0))
        go (inr h) (inl k) = absurd (omega (arith, lt, h.0, k.0))
        go (inr h) (inr k) = absurd (omega (arith, lt, h.0, k.0))

-- so many rows of conflicts
pub record HasConflicts (n : ℕ) (rows : List (List ℕ)) (made : ℕ) : Type 0 where
  pub size : length rows ≡ made
  pub rising : (a : ℕ) → a < made → AreGreater (get_or rows a []) a n

pub no_conflicts : (n : ℕ) → HasConflicts n [] 0
no_conflicts n = record { size = refl; rising = λ a lt. absurd (omega (arith, lt)) }

row_at : (rows : List (List ℕ)) (row : List ℕ) (a : ℕ) → a < length rows → get_or (rows ++ row ∷ []) a [] ≡ get_or rows a []
row_at [] row a lt = absurd (omega (arith, lt))
row_at (x ∷ rows) row zero lt = refl
row_at (x ∷ rows) row (suc a) lt = row_at rows row a (omega (arith, lt))

last_row : (rows : List (List ℕ)) (row : List ℕ) → get_or (rows ++ row ∷ []) (length rows) [] ≡ row
last_row [] row = refl
last_row (x ∷ rows) row = last_row rows row

pub more_conflicts : (n : ℕ) (rows : List (List ℕ)) (row : List ℕ) (made : ℕ) → HasConflicts n rows made →
    AreGreater row made n → HasConflicts n (rows ++ row ∷ []) (made + 1)
more_conflicts n rows row made are greater = record {
  size = length_more rows row ∙ (ap suc are.size ∙ sym (add-one made));
  rising = λ a lt. go a (cases_lt a made) lt;
}
  where
    go : (a : ℕ) → (a < made) ⊎ (made ≤ a) → a < made + 1 → AreGreater (get_or (rows ++ row ∷ []) a []) a n
    go a (inl less) lt =
        subst (λ (r : List ℕ). AreGreater r a n)
        (sym (row_at rows row a (subst (λ (m : ℕ). a < m) (sym are.size) less))) (are.rising a less)
    go a (inr ge) lt =
        let same : length rows ≡ a = let s : length rows ≡ made = are.size in omega (arith, ge, lt, s) in
        let here : made ≡ a = omega (arith, ge, lt) in
        subst (λ (k : ℕ). AreGreater (get_or (rows ++ row ∷ []) k []) a n) same
        (subst (λ (r : List ℕ). AreGreater r a n) (sym (last_row rows row)) (subst (λ (k : ℕ). AreGreater row k n) here greater))

-- rows for all blocks are conflicts of blocks
pub all_conflicts : (n : ℕ) (rows : List (List ℕ)) (made : ℕ) → HasConflicts n rows made → made ≡ n → AreConflicts rows n
all_conflicts n rows made are same = record {
  rows = are.size ∙ same;
  rising = λ a lt. are.rising a (subst (λ (m : ℕ). a < m) (sym same) lt);
}
