-- Layers of blocks from which walks lead to a block.
use Rattle.std.proofs.Common.{◌≡◌, ℕ, zero, suc, ◌+◌, ◌<◌, ◌≤◌, ◌⊎◌, Bool, true, false, ◌&&◌, ◌||◌, eqb, leb, refl, sym, ap, ap₂, subst, ◌∙◌, inl, inr, arith, add-one, eq-eqb, ne_eqb, le-leb}
use Rattle.std.proofs.lemmas.Bool.{and_left, cases_lt, cases_order, lt-leb}
use Rattle.bit_table.specs.Tables.{Table, is_set, IsEmpty, Adds}
use Rattle.pm_cons.specs.Below.{any_below}
use Rattle.pm_cons.specs.Precedence.{Precedence}
use Rattle.pm_cons.specs.Walks.{walks}
use Rattle.pm_sched.specs.Cycles.{AreLayers}
use Rattle.pm_sched.specs.Tables.{precedence_in}

-- whether a block directly precedes one of the first blocks of layer k
abbrev pub steps : ℕ → Table → Table → ℕ → ℕ → Bool
steps n predecessors layers k x = any_below n (λ b. is_set predecessors b x && is_set layers k b)

-- the predecessors of the blocks below a bound that are in layer k are in the next
abbrev pub AreAdded : Table → Table → Table → ℕ → ℕ → Type 0
AreAdded predecessors old now k bound = Adds old now (λ j x. eqb j (k + 1) && steps bound predecessors old k x)

or_none : (t u : Bool) → u ≡ false → (t || u) ≡ t
or_none true u e = refl
or_none false u e = e

and_none : (u : Bool) → (u && false) ≡ false
and_none true = refl
and_none false = refl

pub none_added : (predecessors t : Table) (k : ℕ) → AreAdded predecessors t t k 0
none_added predecessors t k = record {
  rows = refl;
  columns = refl;
  bits = λ j x. sym (or_none (is_set t j x) (eqb j (k + 1) && false) (and_none (eqb j (k + 1))));
}

-- layer k stays while the next is made
same_layer : (predecessors old now : Table) (k bound b : ℕ) → AreAdded predecessors old now k bound →
    is_set now k b ≡ is_set old k b
same_layer predecessors old now k bound b added = added.bits k b
    ∙ or_none (is_set old k b) (eqb k (k + 1) && steps bound predecessors old k b)
    (and_left (eqb k (k + 1)) (steps bound predecessors old k b)
    (ne_eqb k (k + 1) (λ (e : k ≡ k + 1). let x : ⊥ = omega arith in x)))

pub more_added : (predecessors old now new : Table) (k c : ℕ) → AreAdded predecessors old now k c →
    Adds now new (λ j x. eqb j (k + 1) && (is_set predecessors c x && is_set now k c)) →
    AreAdded predecessors old new k (c + 1)
more_added predecessors old now new k c added adds = record {
  rows = adds.rows ∙ added.rows;
  columns = adds.columns ∙ added.columns;
  bits = λ j x. adds.bits j x
      ∙ (ap₂ (λ (t u : Bool). t || (eqb j (k + 1) && (is_set predecessors c x && u))) (added.bits j x)
      (same_layer predecessors old now k c c added)
      ∙ (joined (is_set old j x) (eqb j (k + 1)) (steps c predecessors old k x)
      (is_set predecessors c x && is_set old k c)
      ∙ ap (λ (n : ℕ). is_set old j x || (eqb j (k + 1) && steps n predecessors old k x)) (sym (add-one c))));
}
  where
    swap : (y z : Bool) → (y || z) ≡ (z || y)
    swap true true = refl
    swap true false = refl
    swap false true = refl
    swap false false = refl

    joined : (o e y z : Bool) → ((o || (e && y)) || (e && z)) ≡ (o || (e && (z || y)))
    joined true e y z = refl
    joined false true y z = swap y z
    joined false false y z = refl

any_below_same : (n : ℕ) (t u : ℕ → Bool) → ((c : ℕ) → t c ≡ u c) → any_below n t ≡ any_below n u
any_below_same zero t u h = refl
any_below_same (suc n) t u h = ap₂ (λ (a b : Bool). a || b) (h n) (any_below_same n t u h)

steps_are : (predecessors layers : Table) (a k x : ℕ) → AreLayers predecessors layers a k →
    steps predecessors.rows predecessors layers k x ≡ walks (suc k) (precedence_in predecessors) x a
unfolding walks
steps_are predecessors layers a k x are =
    any_below_same predecessors.rows (λ b. is_set predecessors b x && is_set layers k b)
    (λ b. is_set predecessors b x && walks k (precedence_in predecessors) b a)
    (λ b. ap (λ (t : Bool). is_set predecessors b x && t)
    (are.bits k b ∙ ap (λ (t : Bool). t && walks k (precedence_in predecessors) b a) (le-leb k k (omega arith))))

pub first_layers : (predecessors empty new : Table) (a : ℕ) → IsEmpty empty predecessors.rows predecessors.columns →
    Adds empty new (λ j x. eqb j 0 && is_set predecessors a x) → AreLayers predecessors new a 0
unfolding walks
first_layers predecessors empty new a is_empty adds = record {
  rows = adds.rows ∙ is_empty.rows_are;
  columns = adds.columns ∙ is_empty.columns_are;
  bits = go;
}
  where
    go : (j b : ℕ) → is_set new j b ≡ (leb j 0 && walks j (precedence_in predecessors) b a)
    go zero b = adds.bits 0 b ∙ ap (λ (t : Bool). t || is_set predecessors a b) (is_empty.clear 0 b)
    go (suc j) b = adds.bits (suc j) b
        ∙ (ap₂ (λ (t u : Bool). t || (u && is_set predecessors a b)) (is_empty.clear (suc j) b)
        (ne_eqb (suc j) 0 (λ (e : suc j ≡ 0). let x : ⊥ = omega arith in x))
        ∙ sym (and_left (leb (suc j) 0) (walks (suc j) (precedence_in predecessors) b a) (lt-leb (suc j) 0 (omega arith))))

pub next_layers : (predecessors old new : Table) (a k : ℕ) → AreLayers predecessors old a k →
    Adds old new (λ j x. eqb j (k + 1) && steps predecessors.rows predecessors old k x) →
    AreLayers predecessors new a (k + 1)
next_layers predecessors old new a k are adds = record {
  rows = adds.rows ∙ are.rows;
  columns = adds.columns ∙ are.columns;
  bits = λ j b. adds.bits j b
      ∙ (ap₂ (λ (t s : Bool). t || (eqb j (k + 1) && s)) (are.bits j b) (steps_are predecessors old a k b are)
      ∙ go j b (cases_order j (k + 1)));
}
  where
    out : (t s : Bool) → ((true && t) || (false && s)) ≡ t
    out true s = refl
    out false s = refl

    go : (j b : ℕ) → (j ≡ k + 1) ⊎ ((j < k + 1) ⊎ (k + 1 < j)) →
        ((leb j k && walks j (precedence_in predecessors) b a) || (eqb j (k + 1) && walks (suc k) (precedence_in predecessors) b a))
        ≡ (leb j (k + 1) && walks j (precedence_in predecessors) b a)
    go j b (inl e) =
        ap₂ (λ (t u : Bool). (t && walks j (precedence_in predecessors) b a) || (u && walks (suc k) (precedence_in predecessors) b a))
        (lt-leb j k (omega arith)) (eq-eqb j (k + 1) e)
        ∙ (ap (λ (i : ℕ). walks i (precedence_in predecessors) b a) (let x : suc k ≡ j = omega arith in x)
        ∙ sym (ap (λ (t : Bool). t && walks j (precedence_in predecessors) b a) (le-leb j (k + 1) (omega arith))))
    go j b (inr (inl l)) =
        ap₂ (λ (t u : Bool). (t && walks j (precedence_in predecessors) b a) || (u && walks (suc k) (precedence_in predecessors) b a))
        (le-leb j k (omega arith)) (ne_eqb j (k + 1) (λ (e : j ≡ k + 1). let x : ⊥ = omega arith in x))
        ∙ (out (walks j (precedence_in predecessors) b a) (walks (suc k) (precedence_in predecessors) b a)
        ∙ sym (ap (λ (t : Bool). t && walks j (precedence_in predecessors) b a) (le-leb j (k + 1) (omega arith))))
    go j b (inr (inr l)) =
        ap₂ (λ (t u : Bool). (t && walks j (precedence_in predecessors) b a) || (u && walks (suc k) (precedence_in predecessors) b a))
        (lt-leb j k (omega arith)) (ne_eqb j (k + 1) (λ (e : j ≡ k + 1). let x : ⊥ = omega arith in x))
        ∙ sym (ap (λ (t : Bool). t && walks j (precedence_in predecessors) b a) (lt-leb j (k + 1) (omega arith)))

-- whether a is in layer k
pub layer_tells : (predecessors layers : Table) (a k : ℕ) → AreLayers predecessors layers a k →
    is_set layers k a ≡ walks k (precedence_in predecessors) a a
layer_tells predecessors layers a k are =
    are.bits k a ∙ ap (λ (t : Bool). t && walks k (precedence_in predecessors) a a) (le-leb k k (omega arith))

-- no walk of one more length leads back
pub none_shorter : (g : Precedence) (a k : ℕ) → ((j : ℕ) → j < k → walks j g a a ≡ false) →
    walks k g a a ≡ false → (j : ℕ) → j < k + 1 → walks j g a a ≡ false
none_shorter g a k before here j lt = go (cases_lt j k)
  where
    go : (j < k) ⊎ (k ≤ j) → walks j g a a ≡ false
    go (inl l) = before j l
    go (inr l) = subst (λ (i : ℕ). walks i g a a ≡ false) (let e : k ≡ j = omega arith in e) here
