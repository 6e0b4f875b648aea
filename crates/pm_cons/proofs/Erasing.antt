-- A shortest loop visits no block twice, so it has no more blocks than there are.
use Rattle.std.proofs.Common.{◌≡◌, ℕ, suc, ◌<◌, ◌≤◌, List, [], ◌∷◌, length, Bool, true, false, ◌||◌, eqb, refl, sym, ap, subst, ◌∙◌, ⊎_elim, arith, eqb-true, eq-eqb}
use Rattle.std.proofs.lemmas.Bool.{or_cases, or_left, both_ways}
use Rattle.pm_cons.specs.Below.{count_below}
use Rattle.pm_cons.specs.Precedence.{Precedence, IsOfBlocks}
use Rattle.pm_cons.specs.Orders.{has}
use Rattle.pm_cons.proofs.Below.{count_below_none, count_below_more, count_below_le}
use Rattle.pm_cons.specs.Cycles.{LeadsAlong, IsReportedCycle}

-- no block is in the list twice
abbrev IsDistinct : List ℕ → Type 0
IsDistinct [] = Unit {0}
IsDistinct (x ∷ xs) = (has xs x ≡ false) × IsDistinct xs

abbrev AreBelow : ℕ → List ℕ → Type 0
AreBelow n [] = Unit {0}
AreBelow n (x ∷ xs) = (x < n) × AreBelow n xs

count_distinct : (n : ℕ) (xs : List ℕ) → AreBelow n xs → IsDistinct xs → count_below n (has xs) ≡ length xs
count_distinct n [] below distinct = count_below_none n
count_distinct n (x ∷ xs) below distinct =
    count_below_more n (has xs) (has (x ∷ xs)) x below.0 distinct.0 (or_left (eqb x x) (has xs x) (eq-eqb x x refl))
    (λ k ne. same k (eqb x k) refl ne) ∙ ap suc (count_distinct n xs below.1 distinct.1)
  where
    same : (k : ℕ) (t : Bool) → eqb x k ≡ t → ¬ (k ≡ x) → has xs k ≡ (t || has xs k)
    same k true e ne = absurd (ne (sym (eqb-true x k e)))
    same k false e ne = refl

pub distinct_le : (n : ℕ) (xs : List ℕ) → AreBelow n xs → IsDistinct xs → length xs ≤ n
distinct_le n xs below distinct =
    let e : count_below n (has xs) ≡ length xs = count_distinct n xs below distinct in let le : count_below n
    (has xs) ≤ n = count_below_le n (has xs) in omega arith

goes_below : (g : Precedence) → IsOfBlocks g → (a : ℕ) (xs : List ℕ) (to : ℕ) → LeadsAlong g a xs to →
    AreBelow g.count xs
goes_below g within a [] to leads = tt
goes_below g within a (x ∷ xs) to leads = ((within a x leads.0).1, goes_below g within x xs to leads.1)

-- a walk that visits no block twice, with at most n blocks between
record IsErased (g : Precedence) (a to n : ℕ) (ys : List ℕ) : Type 0 where
  leads : LeadsAlong g a ys to
  distinct : IsDistinct (a ∷ ys)
  shorter : length ys ≤ n

-- the rest of a walk, from where it visits a
cut : (g : Precedence) (a x to : ℕ) (ys : List ℕ) → LeadsAlong g x ys to → IsDistinct (x ∷ ys) →
    has (x ∷ ys) a ≡ true → (zs : List ℕ) × IsErased g a to (length ys) zs
cut g a x to [] leads distinct h =
    ⊎_elim
    (λ (e : eqb x a ≡ true). (
      [],
      record
          { leads = subst (λ (z : ℕ). LeadsAlong g z [] to) (eqb-true x a e) leads; distinct = (refl, tt); shorter = omega arith },
    ))
    (λ (e : false ≡ true). absurd (both_ways false refl e)) (or_cases (eqb x a) false h)
cut g a x to (y ∷ ys) leads distinct h =
    ⊎_elim
    (λ (e : eqb x a ≡ true). (
      y ∷ ys,
      record
          { leads = subst (λ (z : ℕ). LeadsAlong g z (y ∷ ys) to) (eqb-true x a e) leads; distinct = subst (λ (z : ℕ). IsDistinct (z ∷ y ∷ ys)) (eqb-true x a e) distinct; shorter = omega arith },
    ))
    (λ (e : has (y ∷ ys) a ≡ true). let rest = cut g a y to ys leads.1 distinct.1 e in (
      rest.0,
      record
          { leads = rest.1.leads; distinct = rest.1.distinct; shorter = let le : length rest.0 ≤ length ys = rest.1.shorter in omega arith },
    ))
    (or_cases (eqb x a) (has (y ∷ ys) a) h)

erase : (g : Precedence) (a to : ℕ) (xs : List ℕ) → LeadsAlong g a xs to →
    (ys : List ℕ) × IsErased g a to (length xs) ys
erase g a to [] leads = ([], record { leads = leads; distinct = (refl, tt); shorter = omega arith })
erase g a to (x ∷ xs) leads = go (erase g x to xs leads.1)
  where
    go : (ys : List ℕ) × IsErased g x to (length xs) ys → (ys : List ℕ) × IsErased g a to (suc (length xs)) ys
    go rest = split (has (x ∷ rest.0) a) refl
      where
        le : length rest.0 ≤ length xs
        le = rest.1.shorter

        split : (t : Bool) → has (x ∷ rest.0) a ≡ t → (ys : List ℕ) × IsErased g a to (suc (length xs)) ys
        split true e =
            let short = cut g a x to rest.0 rest.1.leads rest.1.distinct e in (
              short.0,
              record
                  { leads = short.1.leads; distinct = short.1.distinct; shorter = let less : length short.0 ≤ length rest.0 = short.1.shorter in omega arith },
            )
        split false e = (
          x ∷ rest.0,
          record
              { leads = (leads.0, rest.1.leads); distinct = (e, rest.1.distinct); shorter = omega arith },
        )

pub cycle_short : (g : Precedence) → IsOfBlocks g → (a : ℕ) (xs : List ℕ) → IsReportedCycle g a xs →
    length xs < g.count
cycle_short g within a xs reported = go (erase g a a xs reported.loop)
  where
    go : (ys : List ℕ) × IsErased g a a (length xs) ys → length xs < g.count
    go rest =
        let most : suc (length rest.0) ≤ g.count = distinct_le g.count (a ∷ rest.0)
        (reported.known, goes_below g within a rest.0 a rest.1.leads) rest.1.distinct in
        let least : length xs ≤ length rest.0 = reported.shortest rest.0 rest.1.leads in omega arith
