-- The places of parts, one by one.
use Rattle.std.proofs.Common.{◌≡◌, ◌∙◌, ◌⊎◌, ◌+◌, ◌<◌, ◌≤◌, ◌==◌, ℕ, zero, suc, List, [], ◌∷◌, ◌++◌, map, length, refl, sym, ap, true, false, inl, inr, arith, eq-eqb, eqb-true}
use Rattle.std.specs.Prelude.{slice_index_or}
use Rattle.std.specs.List.{range_with_len}
use Rattle.std.proofs.lemmas.Bool.{or_cases, or_left, or_right}
use Rattle.std.proofs.lemmas.List.Folds.{list_any-append}
use Rattle.pm_design.specs.declared.connection.Part.{Part}
use Rattle.pm_block.specs.Value.{Names, no_part, places_of}
use Rattle.pm_touched.specs.Events.{Place, is_among, is_same}
use Rattle.pm_touched.specs.Events.Place.{Bit, Object}
use Rattle.pm_touched.specs.Expressions.{part_places, parts_places}

pub same_itself : (q : Place) → is_same q q ≡ true
same_itself (Bit n) = eq-eqb n n refl
same_itself (Object k) = eq-eqb k k refl

-- what is among some places is among more
pub among_left : (q : Place) (xs ys : List Place) → is_among q xs ≡ true → is_among q (xs ++ ys) ≡ true
among_left q xs ys e = list_any-append (is_same q) xs ys ∙ or_left (is_among q xs) (is_among q ys) e

pub among_right : (q : Place) (xs ys : List Place) → is_among q ys ≡ true → is_among q (xs ++ ys) ≡ true
among_right q xs ys e = list_any-append (is_same q) xs ys ∙ or_right (is_among q xs) (is_among q ys) e

-- the places of the numbers from a to a + n have each of them
has_from : (f : ℕ → Place) (a n b : ℕ) → a ≤ b → b < a + n → is_among (f b) (map f (range_with_len a n)) ≡ true
has_from f a zero b le lt = absurd (omega (arith, le, lt))
has_from f a (suc n) b le lt = by b (cases a b le) lt (λ more. has_from f (a + 1) n b more (omega (arith, lt)))
  where
    cases : (x y : ℕ) → x ≤ y → (x ≡ y) ⊎ (x + 1 ≤ y)
    cases zero zero h = inl refl
    cases zero (suc y) h = inr (omega arith)
    cases (suc x) zero h = absurd (omega arith)
    cases (suc x) (suc y) h = step (cases x y (omega arith))
      where
        step : (x ≡ y) ⊎ (x + 1 ≤ y) → (suc x ≡ suc y) ⊎ (suc x + 1 ≤ suc y)
        step (inl e) = inl (ap suc e)
        step (inr h) = inr (omega (arith, h))

    by : (b : ℕ) → (a ≡ b) ⊎ (a + 1 ≤ b) → b < a + suc n
        → (a + 1 ≤ b → is_among (f b) (map f (range_with_len (a + 1) n)) ≡ true)
        → is_among (f b) (map f (range_with_len a (suc n))) ≡ true
    by b (inl e) lt rest =
        or_left (is_same (f b) (f a)) (is_among (f b) (map f (range_with_len (a + 1) n)))
        (ap (λ (x : ℕ). is_same (f b) (f x)) e ∙ same_itself (f b))
    by b (inr h) lt rest =
        or_right (is_same (f b) (f a)) (is_among (f b) (map f (range_with_len (a + 1) n))) (rest h)

-- the bit of a part is among its places
pub part_has : (names : Names) (p : Part) (b : ℕ) → b < p.width
    → is_among (Bit (places_of names p b)) (part_places names p) ≡ true
part_has names p b lt = has_from (λ i. Bit (places_of names p i)) 0 p.width b (omega arith) (omega (arith, lt))

-- a bit among the places of a part is one of its bits
from_range : (place : ℕ → ℕ) (a n q : ℕ) → is_among (Bit q) (map (λ i. Bit (place i)) (range_with_len a n)) ≡ true
    → (i : ℕ) × (i < a + n) × (place i ≡ q)
from_range place a zero q e = absurd (cc)
from_range place a (suc n) q e =
    by (or_cases (q == place a) (is_among (Bit q) (map (λ i. Bit (place i)) (range_with_len (a + 1) n))) e)
    (from_range place (a + 1) n q)
  where
    by : ((q == place a) ≡ true) ⊎ (is_among (Bit q) (map (λ i. Bit (place i)) (range_with_len (a + 1) n)) ≡ true)
        → (is_among (Bit q) (map (λ i. Bit (place i)) (range_with_len (a + 1) n)) ≡ true
        → (i : ℕ) × (i < a + 1 + n) × (place i ≡ q))
        → (i : ℕ) × (i < a + suc n) × (place i ≡ q)
    by (inl e) rest = (a, omega arith, sym (eqb-true q (place a) e))
    by (inr e) rest = let found = rest e in (found.0, omega (arith, found.1), found.2)

pub part_from : (names : Names) (p : Part) (q : ℕ) → is_among (Bit q) (part_places names p) ≡ true
    → (i : ℕ) × (i < p.width) × (places_of names p i ≡ q)
part_from names p q e = let found = from_range (places_of names p) 0 p.width q e in (found.0, omega (arith, found.1), found.2)

no_object : (place : ℕ → ℕ) (a n k : ℕ) → is_among (Object k) (map (λ i. Bit (place i)) (range_with_len a n)) ≡ false
no_object place a zero k = refl
no_object place a (suc n) k = no_object place (a + 1) n k

-- no state object is among the places of a part
pub part_has_none : (names : Names) (p : Part) (k : ℕ) → is_among (Object k) (part_places names p) ≡ false
part_has_none names p k = no_object (places_of names p) 0 p.width k

-- the places of an element are among those of all
pub element_among : (names : Names) (ps : List Part) (k : ℕ) (q : Place) → k < length ps
    → is_among q (part_places names (slice_index_or ps k no_part)) ≡ true → is_among q (parts_places names ps) ≡ true
element_among names [] k q lt e = absurd (omega (arith, lt))
element_among names (p ∷ ps) zero q lt e = among_left q (part_places names p) (parts_places names ps) e
element_among names (p ∷ ps) (suc k) q lt e =
    among_right q (part_places names p) (parts_places names ps) (element_among names ps k q (omega (arith, lt)) e)
