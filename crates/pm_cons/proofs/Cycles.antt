-- If there is a loop, there is one reported cycle.
use Rattle.std.proofs.Common.{◌≡◌, ℕ, zero, suc, ◌<◌, ◌≤◌, ◌⊎◌, List, [], ◌∷◌, length, true, false, ◌&&◌, Option, Some, None, refl, sym, ap, ap₂, subst, ◌∙◌, inl, inr, arith}
use Rattle.std.proofs.lemmas.Bool.{and_parts, and_from, both_ways, cases_order}
use Rattle.pm_cons.specs.Below.{least_below}
use Rattle.pm_cons.specs.Precedence.{Precedence, IsOfBlocks, precedes, Path, has_loop}
use Rattle.pm_cons.specs.Precedence.Path.{Edge, Onward}
use Rattle.pm_cons.proofs.Below.{any_below_from, any_below_at, least_below_some, least_below_none, least_below_least}
use Rattle.pm_cons.proofs.Paths.{steps_some, steps_all}
use Rattle.pm_cons.specs.Cycles.{LeadsAlong, IsUpTo, IsReportedCycle}
use Rattle.pm_cons.specs.Walks.{walks, IsLeastWalk}

pub walk_of : (g : Precedence) → IsOfBlocks g → (xs : List ℕ) (a to : ℕ) → LeadsAlong g a xs to →
    walks (length xs) g a to ≡ true
unfolding walks
walk_of g within [] a to leads = leads
walk_of g within (x ∷ xs) a to leads =
    any_below_from g.count (λ c. g.before a c && walks (length xs) g c to) x (within a x leads.0).1
    (and_from (g.before a x) (walks (length xs) g x to) leads.0 (walk_of g within xs x to leads.1))

pub least_none : (g : Precedence) (a to : ℕ) → g.before a to ≡ true → IsLeastWalk g 0 a to []
least_none g a to h = record { leads = h; size = refl; least = λ ys e leads. tt }

-- the least first block, and the least walk from there
pub least_cons : (g : Precedence) → IsOfBlocks g → (k a to c : ℕ) (xs : List ℕ) →
    least_below g.count (λ c. g.before a c && walks k g c to) ≡ Some c → IsLeastWalk g k c to xs →
    IsLeastWalk g (suc k) a to (c ∷ xs)
least_cons g within k a to c xs e walk = record {
  leads = (
    (and_parts (g.before a c) (walks k g c to)
        (least_below_some g.count (λ c. g.before a c && walks k g c to) c e).1).0,
    walk.leads,
  );
  size = ap suc walk.size;
  least = up;
}
  where
    by_case : (y : ℕ) (ys : List ℕ) → length ys ≡ k → LeadsAlong g y ys to →
        (g.before a y && walks k g y to) ≡ true → (c ≡ y) ⊎ ((c < y) ⊎ (y < c)) → (c < y) ⊎ ((c ≡ y) × IsUpTo xs ys)
    by_case y ys sized leads passes (inl x) =
        inr (x, walk.least ys sized (subst (λ (z : ℕ). LeadsAlong g z ys to) (sym x) leads))
    by_case y ys sized leads passes (inr (inl x)) = inl x
    by_case y ys sized leads passes (inr (inr x)) =
        absurd
        (both_ways (g.before a y && walks k g y to)
        (least_below_least g.count (λ c. g.before a c && walks k g c to) c e y x) passes)

    up : (ys : List ℕ) → length ys ≡ suc k → LeadsAlong g a ys to → IsUpTo (c ∷ xs) ys
    up [] same leads = absurd (omega arith)
    up (y ∷ ys) same leads = let sized : length ys ≡ k = omega arith in
        by_case y ys sized leads.1
        (and_from (g.before a y) (walks k g y to) leads.0
        (subst (λ (n : ℕ). walks n g y to ≡ true) sized (walk_of g within ys y to leads.1)))
        (cases_order c y)

least_walk : (g : Precedence) → IsOfBlocks g → (k a to : ℕ) → walks k g a to ≡ true →
    (xs : List ℕ) × IsLeastWalk g k a to xs
unfolding walks
least_walk g within zero a to h = ([], least_none g a to h)
least_walk g within (suc k) a to h =
    go (least_below g.count (λ c. g.before a c && walks k g c to)) refl (λ c. least_walk g within k c to)
  where
    go : (o : Option ℕ) → least_below g.count (λ c. g.before a c && walks k g c to) ≡ o →
        ((c : ℕ) → walks k g c to ≡ true → (xs : List ℕ) × IsLeastWalk g k c to xs) →
        (xs : List ℕ) × IsLeastWalk g (suc k) a to xs
    go None e ih =
        let found = any_below_at g.count (λ c. g.before a c && walks k g c to) h in absurd
        (both_ways (g.before a found.0 && walks k g found.0 to)
        (least_below_none g.count (λ c. g.before a c && walks k g c to) e found.0 found.1) found.2)
    go (Some c) e ih =
        let rest = ih c
        (and_parts (g.before a c) (walks k g c to)
        (least_below_some g.count (λ c. g.before a c && walks k g c to) c e).1).1 in
        (c ∷ rest.0, least_cons g within k a to c rest.0 e rest.1)

goes_of : (g : Precedence) (a b : ℕ) → Path g.before a b → (xs : List ℕ) × LeadsAlong g a xs b
goes_of g _ _ (Edge a b h) = ([], h)
goes_of g _ _ (Onward a b c h more) = let rest = goes_of g b c more in (b ∷ rest.0, (h, rest.1))

pub cycle_some : (g : Precedence) → IsOfBlocks g → has_loop g ≡ true →
    (a : ℕ) × (xs : List ℕ) × IsReportedCycle g a xs
cycle_some g within h = go (least_below g.count (λ b. precedes g b b)) refl
  where
    shortest_of : (a : ℕ) → a < g.count → ((b : ℕ) → b < a → precedes g b b ≡ false) → (xs : List ℕ) →
        LeadsAlong g a xs a → (o : Option ℕ) → least_below (suc (length xs)) (λ k. walks k g a a) ≡ o →
        (a : ℕ) × (xs : List ℕ) × IsReportedCycle g a xs
    shortest_of a lt below xs leads None e =
        absurd
        (both_ways (walks (length xs) g a a)
        (least_below_none (suc (length xs)) (λ k. walks k g a a) e (length xs) (omega arith))
        (walk_of g within xs a a leads))
    shortest_of a lt below xs leads (Some k) e =
        let walk = least_walk g within k a a (least_below_some (suc (length xs)) (λ k. walks k g a a) k e).1 in (
          a,
          walk.0,
          record {
            known = lt;
            least_block = below;
            loop = walk.1.leads;
            shortest =
                λ ys round. let none : ¬ (length ys < k) = λ less. both_ways (walks (length ys) g a a)
                (least_below_least (suc (length xs)) (λ k. walks k g a a) k e (length ys) less)
                (walk_of g within ys a a round) in let size : length walk.0 ≡ k = walk.1.size in omega arith;
            least = λ ys round same. walk.1.least ys (sym same ∙ walk.1.size) round;
          },
        )

    go : (o : Option ℕ) → least_below g.count (λ b. precedes g b b) ≡ o →
        (a : ℕ) × (xs : List ℕ) × IsReportedCycle g a xs
    go None e =
        let found = any_below_at g.count (λ b. precedes g b b) h in absurd
        (both_ways (precedes g found.0 found.0) (least_below_none g.count (λ b. precedes g b b) e found.0 found.1)
        found.2)
    go (Some a) e =
        let got = least_below_some g.count (λ b. precedes g b b) a e in let round = goes_of g a a
        (steps_some g a a got.1) in
        shortest_of a got.0 (least_below_least g.count (λ b. precedes g b b) a e) round.0 round.1
        (least_below (suc (length round.0)) (λ k. walks k g a a)) refl

both_up : (xs ys : List ℕ) → IsUpTo xs ys → IsUpTo ys xs → xs ≡ ys
both_up [] [] p q = refl
both_up [] (y ∷ ys) p q = absurd q
both_up (x ∷ xs) [] p q = absurd p
both_up (x ∷ xs) (y ∷ ys) (inl p) (inl q) = absurd (omega arith)
both_up (x ∷ xs) (y ∷ ys) (inl p) (inr q) = let e : y ≡ x = q.0 in absurd (omega arith)
both_up (x ∷ xs) (y ∷ ys) (inr p) (inl q) = let e : x ≡ y = p.0 in absurd (omega arith)
both_up (x ∷ xs) (y ∷ ys) (inr p) (inr q) = ap₂ (λ (z : ℕ) (zs : List ℕ). z ∷ zs) p.0 (both_up xs ys p.1 q.1)

pub precedes_of_goes : (g : Precedence) (xs : List ℕ) (a to : ℕ) → LeadsAlong g a xs to → Path g.before a to
precedes_of_goes g [] a to h = Edge a to h
precedes_of_goes g (x ∷ xs) a to h = Onward a x to h.0 (precedes_of_goes g xs x to h.1)

pub one_cycle : (g : Precedence) → IsOfBlocks g → (a b : ℕ) (xs ys : List ℕ) → IsReportedCycle g a xs →
    IsReportedCycle g b ys → (a ≡ b) × (xs ≡ ys)
one_cycle g within a b xs ys one two = (same, lists ys (subst (λ (z : ℕ). IsReportedCycle g z ys) (sym same) two))
  where
    on_loop : (c : ℕ) (zs : List ℕ) → IsReportedCycle g c zs → precedes g c c ≡ true
    on_loop c zs reported = steps_all g within c c (precedes_of_goes g zs c c reported.loop)

    by_case : (a ≡ b) ⊎ ((a < b) ⊎ (b < a)) → a ≡ b
    by_case (inl x) = x
    by_case (inr (inl x)) = absurd (both_ways (precedes g a a) (two.least_block a x) (on_loop a xs one))
    by_case (inr (inr x)) = absurd (both_ways (precedes g b b) (one.least_block b x) (on_loop b ys two))

    same : a ≡ b
    same = by_case (cases_order a b)

    lists : (zs : List ℕ) → IsReportedCycle g a zs → xs ≡ zs
    lists zs other =
        let p : length xs ≤ length zs = one.shortest zs other.loop in let q : length zs ≤ length xs = other.shortest
        xs one.loop in
        both_up xs zs (one.least zs other.loop (omega arith)) (other.least xs one.loop (omega arith))

-- the least walk of the first length at which one leads back is the reported cycle
pub cycle_from : (g : Precedence) → IsOfBlocks g → (a k : ℕ) (xs : List ℕ) → a < g.count →
    ((b : ℕ) → b < a → precedes g b b ≡ false) → ((j : ℕ) → j < k → walks j g a a ≡ false) →
    IsLeastWalk g k a a xs → IsReportedCycle g a xs
cycle_from g within a k xs lt below before walk = record {
  known = lt;
  least_block = below;
  loop = walk.leads;
  shortest =
      λ ys round. let none : ¬ (length ys < k) = λ less. both_ways (walks (length ys) g a a)
      (before (length ys) less) (walk_of g within ys a a round) in let size : length xs ≡ k = walk.size in omega
      arith;
  least = λ ys round same. walk.least ys (sym same ∙ walk.size) round;
}
