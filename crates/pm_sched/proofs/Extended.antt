-- Rows that are extended by the row of a number whose column they have.
use Rattle.std.proofs.Common.{◌≡◌, ℕ, zero, suc, ◌+◌, ◌<◌, ◌≤◌, ◌⊎◌, Bool, true, false, ◌&&◌, ◌||◌, eqb, ltb, refl, sym, ap, ap₂, subst, ◌∙◌, inl, inr, arith, eq-eqb, ne_eqb, lt-ltb, le-ltb, add-one}
use Rattle.std.proofs.lemmas.Bool.{and_left, and_right, cases_eq, cases_lt}
use mathlib.Core.Path.{fun_ext}
use Rattle.bit_table.specs.Tables.{Table, is_set, Adds}
use Rattle.bit_table.proofs.Views.{set_outside}
use Rattle.pm_cons.specs.Below.{least_below}
use Rattle.pm_cons.specs.Precedence.{Precedence, precedes, precedes_through}
use Rattle.pm_sched.specs.Tables.{precedence_in}

or_none : (t u : Bool) → u ≡ false → (t || u) ≡ t
or_none true u e = refl
or_none false u e = e

-- the rows below a bound are extended
abbrev pub AreExtended : Table → Table → ℕ → ℕ → Type 0
AreExtended old now m bound = Adds old now (λ r c. ltb r bound && (is_set old r m && is_set old m c))

pub none_extended : (t : Table) (m : ℕ) → AreExtended t t m 0
none_extended t m = record { rows = refl; columns = refl; bits = λ r c. sym (or_none (is_set t r c) (ltb r 0 && (is_set t r m && is_set t m c)) (and_left (ltb r 0) (is_set t r m && is_set t m c) (le-ltb r 0 (omega arith)))) }

-- the number's own row stays
own_row : (old now : Table) (m bound c : ℕ) → AreExtended old now m bound → is_set now m c ≡ is_set old m c
own_row old now m bound c extended = extended.bits m c ∙ same (is_set old m c) (ltb m bound) (is_set old m m)
  where
    same : (t u v : Bool) → (t || (u && (v && t))) ≡ t
    same true u v = refl
    same false true true = refl
    same false true false = refl
    same false false v = refl

pub more_extended : (old now new : Table) (m row : ℕ) → AreExtended old now m row →
    Adds now new (λ r c. eqb r row && (is_set now r m && is_set now m c)) → AreExtended old new m (row + 1)
more_extended old now new m row extended adds = record {
  rows = adds.rows ∙ extended.rows;
  columns = adds.columns ∙ extended.columns;
  bits = λ r c. adds.bits r c ∙ go r c (cases_eq r row);
}
  where
    some : (t u v : Bool) → u ≡ true → (t || (u && v)) ≡ (t || v)
    some t true v e = refl
    some t false v e = absurd (cc)

    at : (r c : ℕ) → r ≡ row → is_set now r c ≡ is_set old r c
    at r c e = extended.bits r c ∙ or_none (is_set old r c) (ltb r row && (is_set old r m && is_set old m c)) (and_left (ltb r row) (is_set old r m && is_set old m c) (le-ltb r row (omega arith)))

    side : (r : ℕ) → ¬ (r ≡ row) → (r < row) ⊎ (row ≤ r) → ltb r row ≡ ltb r (row + 1)
    side r ne (inl l) = lt-ltb r row l ∙ sym (lt-ltb r (row + 1) (omega arith))
    side r ne (inr l) = le-ltb r row l ∙ sym (le-ltb r (row + 1) (omega arith))

    go : (r c : ℕ) → (r ≡ row) ⊎ (r ≡ row → ⊥) → (is_set now r c || (eqb r row && (is_set now r m && is_set now m c))) ≡ (is_set old r c || (ltb r (row + 1) && (is_set old r m && is_set old m c)))
    go r c (inl e) = some (is_set now r c) (eqb r row) (is_set now r m && is_set now m c) (eq-eqb r row e)
        ∙ (ap₂ (λ (t u : Bool). t || u) (at r c e) (ap₂ (λ (t u : Bool). t && u) (at r m e) (own_row old now m row c extended))
        ∙ sym (some (is_set old r c) (ltb r (row + 1)) (is_set old r m && is_set old m c) (lt-ltb r (row + 1) (omega arith))))
    go r c (inr ne) = or_none (is_set now r c) (eqb r row && (is_set now r m && is_set now m c)) (and_left (eqb r row) (is_set now r m && is_set now m c) (ne_eqb r row ne))
        ∙ (extended.bits r c ∙ ap (λ (t : Bool). is_set old r c || (t && (is_set old r m && is_set old m c))) (side r ne (cases_lt r row)))

-- with all rows extended, every row of the table is
pub all_extended : (old now : Table) (m bound : ℕ) → old.rows ≤ bound → AreExtended old now m bound →
    Adds old now (λ r c. is_set old r m && is_set old m c)
all_extended old now m bound le extended = record {
  rows = extended.rows;
  columns = extended.columns;
  bits = λ r c. extended.bits r c ∙ ap (λ (t : Bool). is_set old r c || t) (go r c (cases_lt r old.rows));
}
  where
    go : (r c : ℕ) → (r < old.rows) ⊎ (old.rows ≤ r) → (ltb r bound && (is_set old r m && is_set old m c)) ≡ (is_set old r m && is_set old m c)
    go r c (inl lt) = ap (λ (t : Bool). t && (is_set old r m && is_set old m c)) (lt-ltb r bound (omega arith))
    go r c (inr ge) = and_right (ltb r bound) (is_set old r m && is_set old m c) none ∙ sym none
      where
        none : (is_set old r m && is_set old m c) ≡ false
        none = and_left (is_set old r m) (is_set old m c) (set_outside old r m (inl ge))

-- the table is closed through the numbers below a bound
pub record IsClosed (old now : Table) (bound : ℕ) : Type 0 where
  pub rows : now.rows ≡ old.rows
  pub columns : now.columns ≡ old.columns
  pub bits : (a b : ℕ) → is_set now a b ≡ precedes_through bound (is_set old) a b

pub none_closed : (t : Table) → IsClosed t t 0
unfolding precedes_through
none_closed t = record { rows = refl; columns = refl; bits = λ a b. refl }

pub more_closed : (old now new : Table) (m : ℕ) → IsClosed old now m →
    Adds now new (λ r c. is_set now r m && is_set now m c) → IsClosed old new (m + 1)
unfolding precedes_through
more_closed old now new m closed adds = record {
  rows = adds.rows ∙ closed.rows;
  columns = adds.columns ∙ closed.columns;
  bits = λ a b. subst (λ (n : ℕ). is_set new a b ≡ precedes_through n (is_set old) a b) (sym (add-one m))
      (adds.bits a b ∙ ap₂ (λ (t u : Bool). t || u) (closed.bits a b) (ap₂ (λ (t u : Bool). t && u) (closed.bits a m) (closed.bits m b)));
}

-- the closure of the turned relation is the turned closure
pub and_swap : (x y : Bool) → (x && y) ≡ (y && x)
and_swap true true = refl
and_swap true false = refl
and_swap false true = refl
and_swap false false = refl

pub turned : (k : ℕ) (r : ℕ → ℕ → Bool) (a b : ℕ) → precedes_through k (λ x y. r y x) a b ≡ precedes_through k r b a
unfolding precedes_through
turned zero r a b = refl
turned (suc k) r a b = ap₂ (λ (t u : Bool). t || u) (turned k r a b)
    (ap₂ (λ (t u : Bool). t && u) (turned k r a k) (turned k r k b) ∙ and_swap (precedes_through k r k a) (precedes_through k r b k))

-- the least block that precedes itself, by the closure of a table of predecessors
pub least_is : (old new : Table) (g : Precedence) → precedence_in old ≡ g →
    new.rows ≡ old.rows → ((a b : ℕ) → is_set new a b ≡ precedes_through old.rows (is_set old) a b) →
    least_below new.rows (λ b. is_set new b b) ≡ least_below g.count (λ b. precedes g b b)
least_is old new g is rows closed =
    ap₂ (λ (n : ℕ) (t : ℕ → Bool). least_below n t) rows
    (fun_ext (λ b. closed b b ∙ sym (turned old.rows (is_set old) b b)))
    ∙ ap (λ (p : Precedence). least_below p.count (λ b. precedes p b b)) is
