-- From the bits of the closed table to the precedence.
use Rattle.std.proofs.Common.{◌≡◌, ℕ, ◌<◌, ◌≤◌, ◌⊎◌, List, [], true, false, not, ◌&&◌, Option, Some, None, IfSome, IsTrue, IsFalse, refl, sym, ap, subst, ◌∙◌, inl, inr}
use Rattle.std.proofs.lemmas.Bool.{and_parts, and_from, cases_lt, both_ways, false_from_ne_true, not-true, not_from_false}
use Rattle.std.proofs.Math.ListN.{get_or-eq_default}
use Rattle.bit_table.specs.Tables.{Table, is_set}
use Rattle.pm_cons.specs.Conflicts.{is_unordered}
use Rattle.pm_cons.specs.Edges.{is_listed}
use Rattle.pm_cons.specs.Orders.{has}
use Rattle.pm_cons.specs.Precedence.{Precedence, precedes, precedes_through}
use Rattle.pm_sched.specs.Tables.{precedence_in}
use Rattle.pm_sched.proofs.Extended.{turned}
use Rattle.pm_sched.specs.LeastPair.{AreConflicts, IsLeastPair}

-- the closed table tells what precedes a block
abbrev pub Tells : Precedence → Table → Type 0
Tells g new = (a b : ℕ) → precedes g a b ≡ is_set new b a

pub bits_tell : (old new : Table) (g : Precedence) → precedence_in old ≡ g →
    ((a b : ℕ) → is_set new a b ≡ precedes_through old.rows (is_set old) a b) → Tells g new
bits_tell old new g is closed a b = ap (λ (p : Precedence). precedes p a b) (sym is) ∙ (turned old.rows (is_set old) a b ∙ sym (closed b a))

-- the first of a listed pair is a block
listed : (conflicts : List (List ℕ)) (count : ℕ) → AreConflicts conflicts count → (c d : ℕ) → is_listed conflicts c d ≡ true → c < count
listed conflicts count are c d h = go (cases_lt c count)
  where
    go : (c < count) ⊎ (count ≤ c) → c < count
    go (inl lt) = lt
    go (inr le) = absurd (both_ways (has [] d) refl (subst (λ (row : List ℕ). has row d ≡ true) (get_or-eq_default conflicts [] {n = c} (subst (λ (n : ℕ). n ≤ c) (sym are.rows) le)) h))

-- what the bits say of an unordered pair
record IsApart (conflicts : List (List ℕ)) (new : Table) (c d : ℕ) : Type 0 where
  pub listed : is_listed conflicts c d ≡ true
  pub there : is_set new c d ≡ false
  pub back : is_set new d c ≡ false

apart_from : (g : Precedence) (conflicts : List (List ℕ)) (new : Table) → Tells g new → (c d : ℕ) →
    is_unordered g conflicts c d ≡ true → IsApart conflicts new c d
apart_from g conflicts new tell c d h =
    let parts = and_parts (is_listed conflicts c d) (not (precedes g c d) && not (precedes g d c)) h in
    let more = and_parts (not (precedes g c d)) (not (precedes g d c)) parts.1 in
    record { listed = parts.0; there = sym (tell d c) ∙ not-true (precedes g d c) more.1; back = sym (tell c d) ∙ not-true (precedes g c d) more.0 }

-- a listed pair without a bit is unordered
unordered_from : (g : Precedence) (conflicts : List (List ℕ)) (new : Table) → Tells g new → (c d : ℕ) →
    is_listed conflicts c d ≡ true → is_set new c d ≡ false → is_set new d c ≡ false → is_unordered g conflicts c d ≡ true
unordered_from g conflicts new tell c d h p q =
    and_from (is_listed conflicts c d) (not (precedes g c d) && not (precedes g d c)) h
    (and_from (not (precedes g c d)) (not (precedes g d c)) (not_from_false (precedes g c d) (tell c d ∙ q)) (not_from_false (precedes g d c) (tell d c ∙ p)))

abbrev pub IsFirst : List (List ℕ) → Table → ℕ × ℕ → Type 0
IsFirst conflicts new p = (c d : ℕ) → c < new.rows → IsTrue (is_listed conflicts c d) → IsFalse (is_set new c d) → IsFalse (is_set new d c) → (p.0 < c) ⊎ ((p.0 ≡ c) × (p.1 ≤ d))

pub least_pair : (g : Precedence) (conflicts : List (List ℕ)) (new : Table) → AreConflicts conflicts new.rows → Tells g new → (o : Option (ℕ × ℕ)) →
    IfSome o (λ p. IsTrue (is_listed conflicts p.0 p.1) × IsFalse (is_set new p.0 p.1) × IsFalse (is_set new p.1 p.0)) →
    IfSome o (IsFirst conflicts new) → IfSome o (λ p. IsLeastPair g conflicts p.0 p.1)
least_pair g conflicts new are tell None some least = some
least_pair g conflicts new are tell (Some p) some least = record {
  unordered = unordered_from g conflicts new tell p.0 p.1 some.0 some.1 some.2;
  least = λ c d h. let a = apart_from g conflicts new tell c d h in least c d (listed conflicts new.rows are c d a.listed) a.listed a.there a.back;
}

pub no_pair : (g : Precedence) (conflicts : List (List ℕ)) (new : Table) → AreConflicts conflicts new.rows → Tells g new →
    ((c d : ℕ) → c < new.rows → IsTrue (is_listed conflicts c d) → IsFalse (is_set new c d) → IsFalse (is_set new d c) → ⊥) →
    (c d : ℕ) → is_unordered g conflicts c d ≡ false
no_pair g conflicts new are tell none c d = false_from_ne_true (is_unordered g conflicts c d) (λ h. let a = apart_from g conflicts new tell c d h in none c d (listed conflicts new.rows are c d a.listed) a.listed a.there a.back)

-- where no pair is unordered, none is found
pub none_found : (g : Precedence) (conflicts : List (List ℕ)) (o : Option (ℕ × ℕ)) → IfSome o (λ p. IsLeastPair g conflicts p.0 p.1) →
    ((c d : ℕ) → is_unordered g conflicts c d ≡ false) → o ≡ None
none_found g conflicts None some all = refl
none_found g conflicts (Some p) some all = absurd (both_ways (is_unordered g conflicts p.0 p.1) (all p.0 p.1) some.unordered)
