-- Chains of links, and one link more.
use Rattle.std.proofs.Common.{◌≡◌, ℕ, zero, suc, ◌+◌, ◌<◌, ◌≤◌, ◌⊎◌, List, [], ◌∷◌, ◌++◌, get_or, max, min, Bool}
use Rattle.std.proofs.Common.{true, false, cond, refl, sym, ap, subst, ◌∙◌, inl, inr, ⊎_elim, arith, eq-eqb, eqb-true}
use Rattle.std.proofs.Common.{ne_eqb, Contains}
use Rattle.std.proofs.lemmas.Bool.{cases_eq, cases_lt, cases_order}
use Rattle.std.proofs.lemmas.List.{get_or-map, length-map, get_or_past}
use Rattle.std.proofs.lemmas.List.Elements.{Contains-push, Contains-append_left, Contains-push_cases}
use Rattle.std.proofs.lemmas.List.FromFn.{length-range_with_len, get_or-range_with_len}
use Rattle.std.specs.List.{range_with_len}
use Rattle.disjoint_sets.specs.Unions.{united_least, united, count_below, is_least, numbers_of}
use Rattle.disjoint_sets.specs.Connected.{Connected, AreBelow}
use Rattle.disjoint_sets.specs.Partitions.{IsPartition, IsNumbering, IsLeast}
use Rattle.disjoint_sets.specs.Connected.Connected.{Itself, Forward, Backward}

pub connected_trans : (links : List (ℕ × ℕ)) (a b c : ℕ) → Connected links a b → Connected links b c →
    Connected links a c
connected_trans links _ _ c (Itself a) q = q
connected_trans links _ _ c (Forward a b m edge rest) q = Forward a b c edge (connected_trans links b m c rest q)
connected_trans links _ _ c (Backward a b m edge rest) q = Backward a b c edge (connected_trans links b m c rest q)

pub connected_itself : (links : List (ℕ × ℕ)) (a : ℕ) → Connected links a a
connected_itself links a = Itself a

pub connected_sym : (links : List (ℕ × ℕ)) (a b : ℕ) → Connected links a b → Connected links b a
connected_sym links _ _ (Itself a) = Itself a
connected_sym links _ _ (Forward a b c edge rest) = connected_trans links c b a (connected_sym links b c rest)
    (Backward b a a edge (Itself a))
connected_sym links _ _ (Backward a b c edge rest) = connected_trans links c b a (connected_sym links b c rest)
    (Forward b a a edge (Itself a))

-- the three properties of an equivalence
pub ruleset chains = (connected_itself, connected_sym, connected_trans)

-- what holds along more connections
pub connected_more : (links others : List (ℕ × ℕ)) → ((a b : ℕ) → Contains links (a, b) → Contains others (a, b)) →
    (a b : ℕ) → Connected links a b → Connected others a b
connected_more links others more _ _ (Itself a) = Itself a
connected_more links others more _ _ (Forward a b c edge rest) =
    Forward a b c (more a b edge) (connected_more links others more b c rest)
connected_more links others more _ _ (Backward a b c edge rest) =
    Backward a b c (more b a edge) (connected_more links others more b c rest)

-- what has one value at both ends of each connection has one along each chain
pub same_along : (links : List (ℕ × ℕ)) (f : ℕ → ℕ) → ((a b : ℕ) → Contains links (a, b) → f a ≡ f b) → (a b : ℕ) →
    Connected links a b → f a ≡ f b
same_along links f each _ _ (Itself a) = refl
same_along links f each _ _ (Forward a b c edge rest) = each a b edge ∙ same_along links f each b c rest
same_along links f each _ _ (Backward a b c edge rest) = sym (each b a edge) ∙ same_along links f each b c rest

pub single_classes : (n : ℕ) → IsPartition n [] (range_with_len 0 n)
single_classes n = record {
  size = length-range_with_len 0 n;
  below = λ a b h. let l : h.0 < 0 = h.1 in absurd (omega arith);
  least = λ x. ⊎_elim (λ (l : x < n). let e : get_or (range_with_len 0 n) x 0 ≡ 0 + x =
      get_or-range_with_len 0 n x 0 l in omega arith)
      (λ (l : n ≤ x). let e : get_or (range_with_len 0 n) x 0 ≡ 0 =
      get_or_past (range_with_len 0 n) x 0 (subst (λ (k : ℕ). k ≤ x) (sym (length-range_with_len 0 n)) l) in
      omega arith) (cases_lt x n);
  member = λ x l. let e : x ≡ get_or (range_with_len 0 n) x 0 =
      sym (get_or-range_with_len 0 n x 0 l ∙ omega arith) in subst (λ (y : ℕ). Connected [] x y) e (Itself x);
  one = same_along [] (λ x. get_or (range_with_len 0 n) x 0) (λ a b h. let l : h.0 < 0 = h.1 in
      absurd (omega arith));
}

unite_max : (a b c : ℕ) → c ≡ max a b → united_least a b c ≡ min a b
unite_max a b c e = ap (λ (t : Bool). cond t (min a b) c) (eq-eqb c (max a b) e)

unite_other : (a b c : ℕ) → (c ≡ max a b → ⊥) → united_least a b c ≡ c
unite_other a b c ne = ap (λ (t : Bool). cond t (min a b) c) (ne_eqb c (max a b) ne)

unite_le : (a b c : ℕ) → united_least a b c ≤ c
unite_le a b c = go (cases_eq c (max a b))
  where
    go : (c ≡ max a b) ⊎ (c ≡ max a b → ⊥) → united_least a b c ≤ c
    go (inl e) = let u : united_least a b c ≡ min a b = unite_max a b c e in
        subst (λ (z : ℕ). z ≤ c) (sym u) (omega arith)
    go (inr ne) = let u : united_least a b c ≡ c = unite_other a b c ne in
        subst (λ (z : ℕ). z ≤ c) (sym u) (omega arith)

unite_own : (a b : ℕ) → united_least a b a ≡ united_least a b b
unite_own a b = go (cases_lt a b)
  where
    go : (a < b) ⊎ (b ≤ a) → united_least a b a ≡ united_least a b b
    go (inl l) = unite_other a b a (λ e. let x : ⊥ = omega arith in x) ∙
        ((let s : a ≡ min a b = omega arith in s) ∙ sym (unite_max a b b (omega arith)))
    go (inr l) = side (cases_eq a b)
      where
        side : (a ≡ b) ⊎ (a ≡ b → ⊥) → united_least a b a ≡ united_least a b b
        side (inl e) = ap (united_least a b) e
        side (inr ne) = unite_max a b a (omega arith) ∙ ((let s : min a b ≡ b = omega arith in s) ∙
            sym (unite_other a b b (λ f. ne (omega arith))))

-- the classes with one connection more
pub united_classes : (n : ℕ) (links : List (ℕ × ℕ)) (leasts : List ℕ) (a b : ℕ) → IsPartition n links leasts → a < n →
    b < n → IsPartition n (links ++ (a, b) ∷ []) (united leasts a b)
united_classes n links leasts a b are la lb = record {
  size = length-map leasts (united_least A B) ∙ are.size;
  below = below;
  least = λ x. least x (cases_lt x n);
  member = member;
  one = same_along more (λ x. get_or (united leasts a b) x 0) each;
}
  where
    A : ℕ
    A = get_or leasts a 0

    B : ℕ
    B = get_or leasts b 0

    more : List (ℕ × ℕ)
    more = links ++ (a, b) ∷ []

    at : (x : ℕ) → x < n → get_or (united leasts a b) x 0 ≡ united_least A B (get_or leasts x 0)
    at x l = get_or-map (united_least A B) leasts x 0 0 (subst (λ (k : ℕ). x < k) (sym are.size) l)

    past : (x : ℕ) → n ≤ x → get_or (united leasts a b) x 0 ≡ 0
    past x l = get_or_past (united leasts a b) x 0 (subst (λ (k : ℕ). k ≤ x)
        (sym (length-map leasts (united_least A B) ∙ are.size)) l)

    pair : ℕ × ℕ
    pair = (a, b)

    ends : (p : ℕ × ℕ) → Contains links p ⊎ (pair ≡ p) → (p.0 < n) × (p.1 < n)
    ends p (inl old) = are.below p.0 p.1 old
    ends p (inr e) = subst (λ (q : ℕ × ℕ). (q.0 < n) × (q.1 < n)) e (la, lb)

    below : AreBelow n more
    below c d h = ends (c, d) (Contains-push_cases links (a, b) (c, d) h)

    least : (x : ℕ) → (x < n) ⊎ (n ≤ x) → get_or (united leasts a b) x 0 ≤ x
    least x (inl l) = let low : get_or leasts x 0 ≤ x = are.least x in
        let u : united_least A B (get_or leasts x 0) ≤ get_or leasts x 0 = unite_le A B (get_or leasts x 0) in
        subst (λ (z : ℕ). z ≤ x) (sym (at x l)) (omega arith)
    least x (inr l) = subst (λ (z : ℕ). z ≤ x) (sym (past x l)) (omega arith)

    kept : (c d : ℕ) → Connected links c d → Connected more c d
    kept = connected_more links more (λ c d h. Contains-append_left links ((a, b) ∷ []) (c, d) h)

    across : Connected more A B
    across = connected_trans more A a B (connected_sym more a A (kept a A (are.member a la)))
        (Forward a b B (Contains-push links (a, b)) (kept b B (are.member b lb)))

    to_least : (A < B) ⊎ (B ≤ A) → Connected more (max A B) (min A B)
    to_least (inl l) = let e : B ≡ max A B = omega arith in let f : A ≡ min A B = omega arith in
        subst (λ (z : ℕ). Connected more z (min A B)) e (subst (λ (z : ℕ). Connected more B z) f
        (connected_sym more A B across))
    to_least (inr l) = let e : A ≡ max A B = omega arith in let f : B ≡ min A B = omega arith in
        subst (λ (z : ℕ). Connected more z (min A B)) e (subst (λ (z : ℕ). Connected more A z) f across)

    member : (x : ℕ) → x < n → Connected more x (get_or (united leasts a b) x 0)
    member x l = subst (λ (z : ℕ). Connected more x z) (sym (at x l)) (go (cases_eq (get_or leasts x 0) (max A B)))
      where
        mine : Connected more x (get_or leasts x 0)
        mine = kept x (get_or leasts x 0) (are.member x l)

        go : (get_or leasts x 0 ≡ max A B) ⊎ (get_or leasts x 0 ≡ max A B → ⊥) →
            Connected more x (united_least A B (get_or leasts x 0))
        go (inl e) = subst (λ (z : ℕ). Connected more x z) (sym (unite_max A B (get_or leasts x 0) e))
            (connected_trans more x (max A B) (min A B) (subst (λ (z : ℕ). Connected more x z) e mine)
            (to_least (cases_lt A B)))
        go (inr ne) = subst (λ (z : ℕ). Connected more x z) (sym (unite_other A B (get_or leasts x 0) ne)) mine

    each : (c d : ℕ) → Contains more (c, d) → get_or (united leasts a b) c 0 ≡ get_or (united leasts a b) d 0
    each c d h = let low = below c d h in at c low.0 ∙ (go (Contains-push_cases links (a, b) (c, d) h) ∙
        sym (at d low.1))
      where
        same : ℕ × ℕ
        same = (c, d)

        go : Contains links (c, d) ⊎ (pair ≡ same) → united_least A B (get_or leasts c 0) ≡ united_least A B
            (get_or leasts d 0)
        go (inl old) = ap (united_least A B) (are.one c d (Forward c d d old (Itself d)))
        go (inr e) = ap (λ (p : ℕ × ℕ). united_least A B (get_or leasts p.0 0)) (sym e) ∙
            (unite_own A B ∙ ap (λ (p : ℕ × ℕ). united_least A B (get_or leasts p.1 0)) e)

-- fewer pass below a number that passes
pub count_less : (c d : ℕ) (t : ℕ → Bool) → c < d → t c ≡ true → count_below c t < count_below d t
unfolding count_below
count_less c zero t l is = absurd (omega arith)
count_less c (suc d) t l is = ⊎_elim here (go (count_less c d t)) (below_suc c d l)
  where
    below_suc : (k n : ℕ) → k < suc n → (k ≡ n) ⊎ (k < n)
    below_suc k n h = grind arith

    here : c ≡ d → count_below c t < cond (t d) 1 0 + count_below d t
    here e = subst (λ (k : ℕ). count_below c t < cond (t k) 1 0 + count_below k t) e (rw is (omega arith))

    go : (c < d → t c ≡ true → count_below c t < count_below d t) → c < d →
        count_below c t < cond (t d) 1 0 + count_below d t
    go ih lt = let i : count_below c t < count_below d t = ih lt is in omega arith

-- each lesser number is a count too
pub count_at : (k c : ℕ) (t : ℕ → Bool) → k < count_below c t →
    (x : ℕ) × (x < c) × (t x ≡ true) × (count_below x t ≡ k)
unfolding count_below
count_at k zero t l = absurd (omega arith)
count_at k (suc c) t l = go (t c) refl l (count_at k c t)
  where
    more : (x : ℕ) × (x < c) × (t x ≡ true) × (count_below x t ≡ k) →
        (x : ℕ) × (x < suc c) × (t x ≡ true) × (count_below x t ≡ k)
    more p = (p.0, omega (arith, p.1), p.2, p.3)

    here : t c ≡ true → (k < count_below c t) ⊎ (count_below c t ≤ k) → k < 1 + count_below c t →
        (k < count_below c t → (x : ℕ) × (x < c) × (t x ≡ true) × (count_below x t ≡ k)) →
        (x : ℕ) × (x < suc c) × (t x ≡ true) × (count_below x t ≡ k)
    here is (inl h) m ih = more (ih h)
    here is (inr h) m ih = (c, omega arith, is, omega arith)

    go : (b : Bool) → t c ≡ b → k < cond b 1 0 + count_below c t →
        (k < count_below c t → (x : ℕ) × (x < c) × (t x ≡ true) × (count_below x t ≡ k)) →
        (x : ℕ) × (x < suc c) × (t x ≡ true) × (count_below x t ≡ k)
    go true is m ih = here is (cases_lt k (count_below c t)) m ih
    go false is m ih = more (ih (omega arith))

-- the numbers of classes
pub numbers_are : (n : ℕ) (links : List (ℕ × ℕ)) (leasts : List ℕ) → IsPartition n links leasts →
    IsNumbering n links (numbers_of leasts) (count_below n (is_least leasts))
numbers_are n links leasts are = record {
  size = length-map leasts number ∙ are.size;
  apart = λ x y lx ly e. apart x y lx ly (sym (at x lx) ∙ (e ∙ at y ly))
      (cases_order (get_or leasts x 0) (get_or leasts y 0));
  one = λ x y lx ly h. at x lx ∙ (ap number (are.one x y h) ∙ sym (at y ly));
  order = λ x y ly p q lt. subst (λ (k : ℕ). k < get_or (numbers_of leasts) y 0) (sym (at x (omega arith) ∙
      ap number (own x (omega arith) p)))
      (subst (λ (k : ℕ). number x < k) (sym (at y ly ∙ ap number (own y ly q)))
      (count_less x y (is_least leasts) lt (eq-eqb (get_or leasts x 0) x (own x (omega arith) p))));
  below = λ x lx. let low : get_or leasts x 0 ≤ x = are.least x in
      subst (λ (m : ℕ). m < count_below n (is_least leasts)) (sym (at x lx))
      (count_less (get_or leasts x 0) n (is_least leasts) (omega arith) (itself x lx));
  used = λ k lt. used k (count_at k n (is_least leasts) lt);
}
  where
    number : ℕ → ℕ
    number c = count_below c (is_least leasts)

    at : (x : ℕ) → x < n → get_or (numbers_of leasts) x 0 ≡ number (get_or leasts x 0)
    at x l = get_or-map number leasts x 0 0 (subst (λ (k : ℕ). x < k) (sym are.size) l)

    own : (x : ℕ) → x < n → IsLeast links x → get_or leasts x 0 ≡ x
    own x l p = let low : get_or leasts x 0 ≤ x = are.least x in
        let high : x ≤ get_or leasts x 0 = p (get_or leasts x 0) (are.member x l) in omega arith

    -- the least element of a class names itself
    itself : (x : ℕ) → x < n → is_least leasts (get_or leasts x 0) ≡ true
    itself x l = eq-eqb (get_or leasts (get_or leasts x 0) 0) (get_or leasts x 0)
        (sym (are.one x (get_or leasts x 0) (are.member x l)))

    apart : (x y : ℕ) → x < n → y < n → number (get_or leasts x 0) ≡ number (get_or leasts y 0) →
        (get_or leasts x 0 ≡ get_or leasts y 0) ⊎ ((get_or leasts x 0 < get_or leasts y 0) ⊎
        (get_or leasts y 0 < get_or leasts x 0)) → Connected links x y
    apart x y lx ly e (inl same) = connected_trans links x (get_or leasts x 0) y (are.member x lx)
        (connected_sym links y (get_or leasts x 0) (subst (λ (z : ℕ). Connected links y z) (sym same)
        (are.member y ly)))
    apart x y lx ly e (inr (inl l)) = let less : number (get_or leasts x 0) < number (get_or leasts y 0) =
        count_less (get_or leasts x 0) (get_or leasts y 0) (is_least leasts) l (itself x lx) in absurd (omega arith)
    apart x y lx ly e (inr (inr l)) = let less : number (get_or leasts y 0) < number (get_or leasts x 0) =
        count_less (get_or leasts y 0) (get_or leasts x 0) (is_least leasts) l (itself y ly) in absurd (omega arith)

    used : (k : ℕ) → (y : ℕ) × (y < n) × (is_least leasts y ≡ true) × (count_below y (is_least leasts) ≡ k) →
        (y : ℕ) × (y < n) × (get_or (numbers_of leasts) y 0 ≡ k)
    used k found = (
      found.0,
      found.1,
      at found.0 found.1 ∙ (ap number (eqb-true (get_or leasts found.0 0) found.0 found.2) ∙ found.3),
    )
