-- A table whose columns are filled one after another.
use Rattle.std.proofs.Common.{◌≡◌, ℕ, ◌+◌, ◌<◌, ◌≤◌, ◌⊎◌, List, [], Bool, true, false, ◌&&◌, ◌||◌, eqb, ltb, length, get_or, refl, sym, ap, ap₂, subst, ◌∙◌, inl, inr, arith, eq-eqb, ne_eqb, lt-ltb, le-ltb}
use Rattle.std.proofs.lemmas.Bool.{and_left, both_ways, cases_eq, cases_lt}
use Rattle.std.proofs.lemmas.List.{get_or_default}
use Rattle.std.proofs.lemmas.List.Folds.{list_any_at}
use Rattle.std.proofs.Math.ListN.{get_or-eq_default}
use mathlib.Core.Path.{fun_ext}
use Rattle.bit_table.specs.Tables.{Table, is_set, Adds}
use Rattle.pm_design.specs.declared.plan.Edges.{Edges}
use Rattle.pm_cons.specs.Edges.{AreEdges, is_listed, precedence_of}
use Rattle.pm_cons.specs.Orders.{has}
use Rattle.pm_cons.specs.Precedence.{Precedence}
use Rattle.pm_sched.specs.Tables.{precedence_in}

and_false : (x : Bool) → (x && false) ≡ false
and_false true = refl
and_false false = refl

-- the columns below a bound are filled
pub record AreFilled (edges : Edges) (table : Table) (bound : ℕ) : Type 0 where
  pub rows : table.rows ≡ edges.count
  pub columns : table.columns ≡ edges.count
  pub bits : (b a : ℕ) → is_set table b a ≡ (ltb a bound && is_listed edges.after a b)

-- one more column is filled
pub more_filled : (edges : Edges) (old new : Table) (k : ℕ) (row : List ℕ) → AreFilled edges old k →
    ((b : ℕ) → has row b ≡ is_listed edges.after k b) → Adds old new (λ r c. has row r && eqb c k) →
    AreFilled edges new (k + 1)
more_filled edges old new k row filled row_is adds = record {
  rows = adds.rows ∙ filled.rows;
  columns = adds.columns ∙ filled.columns;
  bits = λ b a. adds.bits b a ∙ (ap (λ (t : Bool). t || (has row b && eqb a k)) (filled.bits b a) ∙ go b a (cases_eq a k));
}
  where
    new_column : (l t u e m : Bool) → l ≡ false → u ≡ t → e ≡ true → m ≡ true → ((l && t) || (u && e)) ≡ (m && t)
    new_column false true true true true p q r s = refl
    new_column false false false true true p q r s = refl
    new_column true t u e m p q r s = absurd (both_ways true p refl)
    new_column false t u false m p q r s = absurd (both_ways false refl r)
    new_column false t u true false p q r s = absurd (both_ways false refl s)
    new_column false true false true true p q r s = absurd (both_ways false refl q)
    new_column false false true true true p q r s = absurd (both_ways true q refl)

    old_column : (l t u e m : Bool) → e ≡ false → l ≡ m → ((l && t) || (u && e)) ≡ (m && t)
    old_column true true u e m p q = ap (λ (x : Bool). x && true) q
    old_column true false true e m p q = p ∙ sym (and_false m)
    old_column true false false e m p q = sym (and_false m)
    old_column false t true e m p q = p ∙ sym (and_left m t (sym q))
    old_column false t false e m p q = sym (and_left m t (sym q))

    side : (a : ℕ) → ¬ (a ≡ k) → (a < k) ⊎ (k ≤ a) → ltb a k ≡ ltb a (k + 1)
    side a ne (inl l) = lt-ltb a k l ∙ sym (lt-ltb a (k + 1) (omega arith))
    side a ne (inr l) = le-ltb a k l ∙ sym (le-ltb a (k + 1) (omega arith))

    go : (b a : ℕ) → (a ≡ k) ⊎ (a ≡ k → ⊥) →
        ((ltb a k && is_listed edges.after a b) || (has row b && eqb a k)) ≡ (ltb a (k + 1) && is_listed edges.after a b)
    go b a (inl e) =
        new_column (ltb a k) (is_listed edges.after a b) (has row b) (eqb a k) (ltb a (k + 1))
        (le-ltb a k (omega arith)) (row_is b ∙ ap (λ (n : ℕ). is_listed edges.after n b) (sym e)) (eq-eqb a k e)
        (lt-ltb a (k + 1) (omega arith))
    go b a (inr ne) =
        old_column (ltb a k) (is_listed edges.after a b) (has row b) (eqb a k) (ltb a (k + 1)) (ne_eqb a k ne)
        (side a ne (cases_lt a k))

-- a precedence of its parts
abbrev made : ℕ → (ℕ → ℕ → Bool) → Precedence
made count before = record { count = count; before = before }

-- with all columns filled, the table has the precedence
pub all_filled : (edges : Edges) (table : Table) (bound : ℕ) → AreEdges edges → edges.count ≤ bound →
    AreFilled edges table bound → precedence_in table ≡ precedence_of edges
all_filled edges table bound are le filled =
    ap₂ made filled.rows (fun_ext (λ a. fun_ext (λ b. filled.bits b a ∙ go a b (cases_lt a edges.count))))
  where
    go : (a b : ℕ) → (a < edges.count) ⊎ (edges.count ≤ a) → (ltb a bound && is_listed edges.after a b) ≡ is_listed edges.after a b
    go a b (inl lt) = ap (λ (t : Bool). t && is_listed edges.after a b) (lt-ltb a bound (omega arith))
    go a b (inr ge) = ap (λ (t : Bool). ltb a bound && t) none ∙ (and_false (ltb a bound) ∙ sym none)
      where
        none : is_listed edges.after a b ≡ false
        none = ap (λ (row : List ℕ). has row b)
            (get_or-eq_default edges.after [] {n = a} (subst (λ (n : ℕ). n ≤ a) (sym are.rows) ge))

-- the list of a block, as it is found by its number
pub list_of : (edges : Edges) (k : ℕ) (rows : List (List ℕ)) (row other : List ℕ) → k < length rows → rows ≡ edges.after →
    row ≡ get_or rows k row → other ≡ row → (b : ℕ) → has other b ≡ is_listed edges.after k b
list_of edges k rows row other lt is at same b =
    ap (λ (r : List ℕ). has r b)
    (same ∙ (at ∙ (get_or_default rows k row [] lt ∙ ap (λ (rs : List (List ℕ)). get_or rs k []) is)))

-- what is listed for a block are blocks
pub listed_known : (edges : Edges) → AreEdges edges → (k : ℕ) (row : List ℕ) →
    ((b : ℕ) → has row b ≡ is_listed edges.after k b) → (i : ℕ) → i < length row → get_or row i 0 < edges.count
listed_known edges are k row row_is i lt =
    (are.precedence k (get_or row i 0) (sym (row_is (get_or row i 0)) ∙ list_any_at (λ x. eqb x (get_or row i 0)) row i 0 lt (eq-eqb (get_or row i 0) (get_or row i 0) refl))).1
