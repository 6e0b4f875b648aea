-- A stable sort by rank gives values by rank.
use Rattle.std.proofs.Common.{◌≡◌, ℕ, zero, suc, ◌<◌, ◌≤◌, Bool, true, false, cond, List, [], ◌∷◌, map, length, get_or, filter, nat_cmp, nat_lt, is_lt, refl, sym, ap, subst, ◌∙◌, arith, inl, inr, suc-le-suc, zero-le}
use Rattle.std.proofs.lemmas.Bool.{cond-true, cond-false, cases_Bool}
use Rattle.std.proofs.lemmas.Bool.Decides.{nat_tests}
use Rattle.std.specs.List.Sorted.{ties, IsNonDecreasingBy, IsStableByKey}
use Rattle.pm_types.specs.ByLine.{placed, by_rank}

ties_at : (m n : ℕ) → (ties (λ x y. is_lt (nat_cmp x y)) m n ≡ true → m ≡ n) × (m ≡ n → ties (λ x y. is_lt (nat_cmp x y)) m n ≡ true)
ties_at m n = (λ h. grind (arith, nat_tests), λ h. grind (arith, nat_tests))

below : (m n : ℕ) → nat_lt m n ≡ true → m < n
below m n h = grind (arith, nat_tests)

not_below : (m n : ℕ) → nat_lt m n ≡ false → n ≤ m
not_below m n h = grind (arith, nat_tests)

filter-kept : {X : Type 0} (p : X → Bool) (y : X) (ys : List X) → p y ≡ true → filter p (y ∷ ys) ≡ y ∷ filter p ys
filter-kept p y ys h = cond-true _ _ _ h

filter-dropped : {X : Type 0} (p : X → Bool) (y : X) (ys : List X) → p y ≡ false → filter p (y ∷ ys) ≡ filter p ys
filter-dropped p y ys h = cond-false _ _ _ h

module _ {X : Type 0} (rank : X → ℕ) where
  -- where a value is placed
  placed-none : (x : X) → placed rank x [] ≡ x ∷ []
  unfolding placed
  placed-none x = refl

  placed-behind : (x y : X) (ys : List X) → nat_lt (rank y) (rank x) ≡ true → placed rank x (y ∷ ys) ≡ y ∷ placed rank x ys
  unfolding placed
  placed-behind x y ys h = cond-true _ _ _ h

  placed-here : (x y : X) (ys : List X) → nat_lt (rank y) (rank x) ≡ false → placed rank x (y ∷ ys) ≡ x ∷ y ∷ ys
  unfolding placed
  placed-here x y ys h = cond-false _ _ _ h

  by_rank-none : by_rank rank [] ≡ []
  unfolding by_rank
  by_rank-none = refl

  by_rank-more : (x : X) (xs : List X) → by_rank rank (x ∷ xs) ≡ placed rank x (by_rank rank xs)
  unfolding by_rank
  by_rank-more x xs = refl

  -- values of one rank
  abbrev same_rank : X → X → Bool
  same_rank = ties (λ x y. is_lt (nat_cmp (rank x) (rank y)))

  same_rank-true : (x y : X) → same_rank x y ≡ true → rank x ≡ rank y
  same_rank-true x y = (ties_at (rank x) (rank y)).0

  same_rank-from : (x y : X) → rank x ≡ rank y → same_rank x y ≡ true
  same_rank-from x y = (ties_at (rank x) (rank y)).1

  filter-placed : (x c : X) (ds : List X) → filter (same_rank x) (placed rank c ds) ≡ filter (same_rank x) (c ∷ ds)
  filter-placed x c [] = ap (filter (same_rank x)) (placed-none c)
  filter-placed x c (d ∷ ds) =
      let p = same_rank x in
      elim (cases_Bool (nat_lt (rank d) (rank c))) [
        | inr stays ↦ ap (filter p) (placed-here c d ds stays)
        | inl past ↦
            let lower = below (rank d) (rank c) past in
            ap (filter p) (placed-behind c d ds past)
            ∙ elim (cases_Bool (p d)) [
              | inr without ↦
                  filter-dropped p d (placed rank c ds) without ∙ filter-placed x c ds
                  ∙ ap (λ l. cond (p c) (c ∷ l) l) (sym (filter-dropped p d ds without))
              | inl with ↦
                  elim (cases_Bool (p c)) [
                    | inl both ↦ absurd (omega (arith, lower, same_rank-true x c both, same_rank-true x d with))
                    | inr only ↦
                        filter-kept p d (placed rank c ds) with ∙ ap (λ l. d ∷ l) (filter-placed x c ds ∙ filter-dropped p c ds only)
                        ∙ sym (filter-dropped p c (d ∷ ds) only ∙ filter-kept p d ds with)
                  ]
            ]
      ]

  filter-by_rank : (x : X) (cs : List X) → filter (same_rank x) (by_rank rank cs) ≡ filter (same_rank x) cs
  filter-by_rank x [] = ap (filter (same_rank x)) by_rank-none
  filter-by_rank x (c ∷ cs) =
      ap (filter (same_rank x)) (by_rank-more c cs) ∙ filter-placed x c (by_rank rank cs)
      ∙ ap (λ l. cond (same_rank x c) (c ∷ l) l) (filter-by_rank x cs)

  -- ranks that rise
  abbrev AreAtLeast : ℕ → List X → Type 0
  AreAtLeast n [] = Unit {0}
  AreAtLeast n (y ∷ ys) = (n ≤ rank y) × AreAtLeast n ys

  abbrev Rises : List X → Type 0
  Rises [] = Unit {0}
  Rises (y ∷ ys) = AreAtLeast (rank y) ys × Rises ys

  AreAtLeast-le : (n m : ℕ) (ys : List X) → n ≤ m → AreAtLeast m ys → AreAtLeast n ys
  AreAtLeast-le n m [] le h = tt
  AreAtLeast-le n m (y ∷ ys) le h = let first = h.0 in (omega arith, AreAtLeast-le n m ys le h.1)

  AreAtLeast-at : (n : ℕ) (ys : List X) → ((j : ℕ) (d : X) → j < length ys → n ≤ rank (get_or ys j d)) → AreAtLeast n ys
  AreAtLeast-at n [] h = tt
  AreAtLeast-at n (y ∷ ys) h = (h zero y (suc-le-suc zero-le), AreAtLeast-at n ys (λ j d lt. h (suc j) d (suc-le-suc lt)))

  Rises-from_sort : (ys : List X) → IsNonDecreasingBy rank ys → Rises ys
  Rises-from_sort [] h = tt
  Rises-from_sort (y ∷ ys) h = (
    AreAtLeast-at (rank y) ys (λ j d lt. h zero (suc j) d zero-le (suc-le-suc lt)),
    Rises-from_sort ys (λ i j d le lt. h (suc i) (suc j) d (suc-le-suc le) (suc-le-suc lt)),
  )

  AreAtLeast-placed : (n : ℕ) (x : X) (ys : List X) → n ≤ rank x → AreAtLeast n ys → AreAtLeast n (placed rank x ys)
  AreAtLeast-placed n x [] le h = subst (AreAtLeast n) (sym (placed-none x)) (le, tt)
  AreAtLeast-placed n x (y ∷ ys) le h =
      elim (cases_Bool (nat_lt (rank y) (rank x))) [
        | inl past ↦ subst (AreAtLeast n) (sym (placed-behind x y ys past)) (h.0, AreAtLeast-placed n x ys le h.1)
        | inr stays ↦ subst (AreAtLeast n) (sym (placed-here x y ys stays)) (le, h)
      ]

  Rises-placed : (x : X) (ys : List X) → Rises ys → Rises (placed rank x ys)
  Rises-placed x [] h = subst Rises (sym (placed-none x)) (tt, tt)
  Rises-placed x (y ∷ ys) h =
      elim (cases_Bool (nat_lt (rank y) (rank x))) [
        | inl past ↦
            let lower = below (rank y) (rank x) past in
            let le : rank y ≤ rank x = omega (arith, lower) in
            subst Rises (sym (placed-behind x y ys past)) (AreAtLeast-placed (rank y) x ys le h.0, Rises-placed x ys h.1)
        | inr stays ↦
            let le = not_below (rank y) (rank x) stays in
            subst Rises (sym (placed-here x y ys stays)) ((le, AreAtLeast-le (rank x) (rank y) ys le h.0), h)
      ]

  Rises-by_rank : (xs : List X) → Rises (by_rank rank xs)
  Rises-by_rank [] = subst Rises (sym by_rank-none) tt
  Rises-by_rank (x ∷ xs) = subst Rises (sym (by_rank-more x xs)) (Rises-placed x (by_rank rank xs) (Rises-by_rank xs))

  -- a value of the rank of x occurs among them
  AreAtLeast-found : (n : ℕ) (x : X) (ys : List X) (w : X) (ws : List X) → AreAtLeast n ys → filter (same_rank x) ys ≡ w ∷ ws → n ≤ rank x
  AreAtLeast-found n x [] w ws h e = cc
  AreAtLeast-found n x (y ∷ ys) w ws h e =
      elim (cases_Bool (same_rank x y)) [
        | inl with ↦ omega (arith, h.0, same_rank-true x y with)
        | inr without ↦ AreAtLeast-found n x ys w ws h.1 (sym (filter-dropped (same_rank x) y ys without) ∙ e)
      ]

  same_from_ranks : (ys zs : List X) → Rises ys → Rises zs → ((x : X) → filter (same_rank x) ys ≡ filter (same_rank x) zs) → ys ≡ zs
  same_from_ranks [] [] left right same = refl
  same_from_ranks [] (z ∷ zs) left right same =
      let clash = same z ∙ filter-kept (same_rank z) z zs (same_rank-from z z refl) in cc
  same_from_ranks (y ∷ ys) [] left right same =
      let clash = sym (same y) ∙ filter-kept (same_rank y) y ys (same_rank-from y y refl) in cc
  same_from_ranks (y ∷ ys) (z ∷ zs) left right same =
      let at_y = filter-kept (same_rank y) y ys (same_rank-from y y refl) in
      let at_z = filter-kept (same_rank z) z zs (same_rank-from z z refl) in
      let up = AreAtLeast-found (rank z) y (z ∷ zs) y _ (omega arith, right.0) (sym (same y) ∙ at_y) in
      let down = AreAtLeast-found (rank y) z (y ∷ ys) z _ (omega arith, left.0) (same z ∙ at_z) in
      let heads = sym at_y ∙ same y ∙ filter-kept (same_rank y) z zs (same_rank-from y z (omega arith)) in
      let head : y ≡ z = cc in
      let tails : (x : X) → filter (same_rank x) ys ≡ filter (same_rank x) zs =
      λ x. elim (cases_Bool (same_rank x y)) [
        | inl with ↦
            let both = sym (filter-kept (same_rank x) y ys with) ∙ same x ∙ filter-kept (same_rank x) z zs (ap (same_rank x) (sym head) ∙ with) in cc
        | inr without ↦
            sym (filter-dropped (same_rank x) y ys without) ∙ same x ∙ filter-dropped (same_rank x) z zs (ap (same_rank x) (sym head) ∙ without)
      ] in
      ap (λ w. w ∷ ys) head ∙ ap (λ l. z ∷ l) (same_from_ranks ys zs left.1 right.1 tails)

  pub by_rank-from_sort : (xs ys : List X) → IsNonDecreasingBy rank ys → IsStableByKey rank nat_cmp xs ys → ys ≡ by_rank rank xs
  by_rank-from_sort xs ys sorted stable =
      same_from_ranks ys (by_rank rank xs) (Rises-from_sort ys sorted) (Rises-by_rank xs) (λ x. stable x ∙ sym (filter-by_rank x xs))

map_placed : {X Y : Type 0} (f : X → Y) (rank : Y → ℕ) (x : X) (ys : List X) → map f (placed (λ a. rank (f a)) x ys) ≡ placed rank (f x) (map f ys)
map_placed f rank x [] = ap (map f) (placed-none (λ a. rank (f a)) x) ∙ sym (placed-none rank (f x))
map_placed f rank x (y ∷ ys) =
    elim (cases_Bool (nat_lt (rank (f y)) (rank (f x)))) [
      | inl past ↦
          ap (map f) (placed-behind (λ a. rank (f a)) x y ys past) ∙ ap (λ l. f y ∷ l) (map_placed f rank x ys)
          ∙ sym (placed-behind rank (f x) (f y) (map f ys) past)
      | inr stays ↦ ap (map f) (placed-here (λ a. rank (f a)) x y ys stays) ∙ sym (placed-here rank (f x) (f y) (map f ys) stays)
    ]

pub map_by_rank : {X Y : Type 0} (f : X → Y) (rank : Y → ℕ) (xs : List X) → map f (by_rank (λ a. rank (f a)) xs) ≡ by_rank rank (map f xs)
map_by_rank f rank [] = ap (map f) (by_rank-none (λ a. rank (f a))) ∙ sym (by_rank-none rank)
map_by_rank f rank (x ∷ xs) =
    ap (map f) (by_rank-more (λ a. rank (f a)) x xs) ∙ map_placed f rank x (by_rank (λ a. rank (f a)) xs)
    ∙ ap (placed rank (f x)) (map_by_rank f rank xs) ∙ sym (by_rank-more rank (f x) (map f xs))
