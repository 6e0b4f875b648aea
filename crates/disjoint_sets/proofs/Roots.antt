-- The roots of a forest, and what leaves or moves them.
use Rattle.std.proofs.Common.{◌≡◌, ℕ, zero, suc, ◌<◌, ◌≤◌, ◌⊎◌, List, length, get_or, set, max, min, Bool, true}
use Rattle.std.proofs.Common.{false, cond, eqb, refl, sym, ap, ap₂, subst, ◌∙◌, inl, inr, ⊎_elim, arith, eq-eqb}
use Rattle.std.proofs.Common.{ne_eqb, get_or-set_same, get_or-set_other}
use Rattle.std.proofs.lemmas.Bool.{cases_eq, cases_lt}
use Rattle.std.proofs.lemmas.List.{length-set}
use Rattle.disjoint_sets.specs.Forests.{IsForest, root_to, root}
use Rattle.disjoint_sets.specs.Unions.{united_least}

-- what is itself at a root, and elsewhere as at the element above
abbrev pub Solves : List ℕ → (ℕ → ℕ) → Type 0
Solves parents g = (x : ℕ) → g x ≡ cond (eqb (get_or parents x 0) x) x (g (get_or parents x 0))

cond_true : (t : Bool) (m n : ℕ) → t ≡ true → cond t m n ≡ m
cond_true t m n e = ap (λ (u : Bool). cond u m n) e

cond_false : (t : Bool) (m n : ℕ) → t ≡ false → cond t m n ≡ n
cond_false t m n e = ap (λ (u : Bool). cond u m n) e

-- a test is chosen by whether it is a root
at_root : (x y m n : ℕ) → y ≡ x → cond (eqb y x) m n ≡ m
at_root x y m n e = cond_true (eqb y x) m n (eq-eqb y x e)

off_root : (x y m n : ℕ) → (y ≡ x → ⊥) → cond (eqb y x) m n ≡ n
off_root x y m n ne = cond_false (eqb y x) m n (ne_eqb y x ne)

pub only_to : (parents : List ℕ) (g : ℕ → ℕ) → IsForest parents → Solves parents g → (k x : ℕ) → x ≤ k →
    g x ≡ root_to k parents x
unfolding root_to
only_to parents g forest solves zero x le = let e : x ≡ 0 = omega arith in subst (λ (z : ℕ). g z ≡ z) (sym e) zero_is
  where
    zero_is : g 0 ≡ 0
    zero_is = let low : get_or parents 0 0 ≤ 0 = forest 0 in solves 0 ∙
        at_root 0 (get_or parents 0 0) 0 (g (get_or parents 0 0)) (omega arith)
only_to parents g forest solves (suc k) x le = solves x ∙ go (cases_eq (get_or parents x 0) x)
    (λ l. only_to parents g forest solves k (get_or parents x 0) l)
  where
    go : (get_or parents x 0 ≡ x) ⊎ (get_or parents x 0 ≡ x → ⊥) →
        (get_or parents x 0 ≤ k → g (get_or parents x 0) ≡ root_to k parents (get_or parents x 0)) →
        cond (eqb (get_or parents x 0) x) x (g (get_or parents x 0)) ≡ cond (eqb (get_or parents x 0) x) x
        (root_to k parents (get_or parents x 0))
    go (inl e) ih = at_root x (get_or parents x 0) x _ e ∙ sym (at_root x (get_or parents x 0) x _ e)
    go (inr ne) ih = let low : get_or parents x 0 ≤ x = forest x in
        ap (λ (m : ℕ). cond (eqb (get_or parents x 0) x) x m) (ih (below (get_or parents x 0) low ne))
      where
        below : (y : ℕ) → y ≤ x → (y ≡ x → ⊥) → y ≤ k
        below y l n = ⊎_elim (λ (h : y < x). let s : y ≤ k = omega arith in
            s) (λ (h : x ≤ y). absurd (n (omega arith))) (cases_lt y x)

pub only_root : (parents : List ℕ) (g : ℕ → ℕ) → IsForest parents → Solves parents g → (x : ℕ) → g x ≡ root parents x
only_root parents g forest solves x = only_to parents g forest solves x x (omega arith)

-- more steps change nothing
pub to_same : (parents : List ℕ) → IsForest parents → (k m x : ℕ) → x ≤ k → x ≤ m →
    root_to k parents x ≡ root_to m parents x
unfolding root_to
to_same parents forest zero zero x l n = refl
to_same parents forest zero (suc m) x l n = let e : x ≡ 0 = omega arith in
    let low : get_or parents x 0 ≤ x = forest x in sym (at_root x (get_or parents x 0) x
    (root_to m parents (get_or parents x 0)) (omega arith))
to_same parents forest (suc k) zero x l n = let e : x ≡ 0 = omega arith in
    let low : get_or parents x 0 ≤ x = forest x in at_root x (get_or parents x 0) x
    (root_to k parents (get_or parents x 0)) (omega arith)
to_same parents forest (suc k) (suc m) x l n = go (cases_eq (get_or parents x 0) x)
    (to_same parents forest k m (get_or parents x 0))
  where
    go : (get_or parents x 0 ≡ x) ⊎ (get_or parents x 0 ≡ x → ⊥) →
        (get_or parents x 0 ≤ k → get_or parents x 0 ≤ m → root_to k parents (get_or parents x 0) ≡ root_to m parents
        (get_or parents x 0)) → cond (eqb (get_or parents x 0) x) x (root_to k parents (get_or parents x 0)) ≡ cond
        (eqb (get_or parents x 0) x) x (root_to m parents (get_or parents x 0))
    go (inl e) ih = at_root x (get_or parents x 0) x _ e ∙ sym (at_root x (get_or parents x 0) x _ e)
    go (inr ne) ih = let low : get_or parents x 0 ≤ x = forest x in
        ap (λ (j : ℕ). cond (eqb (get_or parents x 0) x) x j)
        (ih (below (get_or parents x 0) k low ne l) (below (get_or parents x 0) m low ne n))
      where
        below : (y j : ℕ) → y ≤ x → (y ≡ x → ⊥) → x ≤ suc j → y ≤ j
        below y j a b c = ⊎_elim (λ (h : y < x). let s : y ≤ j = omega arith in
            s) (λ (h : x ≤ y). absurd (b (omega arith))) (cases_lt y x)

pub root_solves : (parents : List ℕ) → IsForest parents → Solves parents (root parents)
unfolding root_to
root_solves parents forest x = let low : get_or parents x 0 ≤ x = forest x in
    to_same parents forest x (suc x) x (omega arith) (omega arith) ∙
    ap (λ (j : ℕ). cond (eqb (get_or parents x 0) x) x j) (to_same parents forest x (get_or parents x 0)
    (get_or parents x 0) low (omega arith))

-- a element and the one above it have one root
pub root_above : (parents : List ℕ) → IsForest parents → (x : ℕ) → root parents x ≡ root parents (get_or parents x 0)
root_above parents forest x = go (cases_eq (get_or parents x 0) x)
  where
    go : (get_or parents x 0 ≡ x) ⊎ (get_or parents x 0 ≡ x → ⊥) → root parents x ≡ root parents (get_or parents x 0)
    go (inl e) = ap (root parents) (sym e)
    go (inr ne) = root_solves parents forest x ∙ off_root x (get_or parents x 0) x
        (root parents (get_or parents x 0)) ne

pub root_itself : (parents : List ℕ) → IsForest parents → (x : ℕ) → get_or parents x 0 ≡ x → root parents x ≡ x
root_itself parents forest x e = root_solves parents forest x ∙
    at_root x (get_or parents x 0) x (root parents (get_or parents x 0)) e

-- a root is a root, and no element is below its root
abbrev IsRootBelow : List ℕ → ℕ → ℕ → Type 0
IsRootBelow parents x r = (r ≤ x) × (get_or parents r 0 ≡ r)

root_to_is : (parents : List ℕ) → IsForest parents → (k x : ℕ) → x ≤ k → IsRootBelow parents x (root_to k parents x)
unfolding root_to
root_to_is parents forest zero x le = let low : get_or parents x 0 ≤ x = forest x in let e : x ≡ 0 = omega arith in
    (omega arith, omega arith)
root_to_is parents forest (suc k) x le = go (cases_eq (get_or parents x 0) x)
    (root_to_is parents forest k (get_or parents x 0))
  where
    go : (get_or parents x 0 ≡ x) ⊎ (get_or parents x 0 ≡ x → ⊥) →
        (get_or parents x 0 ≤ k → IsRootBelow parents (get_or parents x 0) (root_to k parents (get_or parents x 0))) →
        IsRootBelow parents x (cond (eqb (get_or parents x 0) x) x (root_to k parents (get_or parents x 0)))
    go (inl e) ih = subst (IsRootBelow parents x) (sym (at_root x (get_or parents x 0) x _ e)) (omega arith, e)
    go (inr ne) ih = let low : get_or parents x 0 ≤ x = forest x in
        subst (IsRootBelow parents x) (sym (off_root x (get_or parents x 0) x
        (root_to k parents (get_or parents x 0)) ne)) (more low (ih (below (get_or parents x 0) low ne)))
      where
        below : (y : ℕ) → y ≤ x → (y ≡ x → ⊥) → y ≤ k
        below y l n = ⊎_elim (λ (h : y < x). let s : y ≤ k = omega arith in
            s) (λ (h : x ≤ y). absurd (n (omega arith))) (cases_lt y x)

        more : get_or parents x 0 ≤ x → IsRootBelow parents (get_or parents x 0)
            (root_to k parents (get_or parents x 0)) → IsRootBelow parents x (root_to k parents (get_or parents x 0))
        more low p = let a : root_to k parents (get_or parents x 0) ≤ get_or parents x 0 = p.0 in (omega arith, p.1)

pub root_le : (parents : List ℕ) → IsForest parents → (x : ℕ) → root parents x ≤ x
root_le parents forest x = (root_to_is parents forest x x (omega arith)).0

pub root_is_root : (parents : List ℕ) → IsForest parents → (x : ℕ) →
    get_or parents (root parents x) 0 ≡ root parents x
root_is_root parents forest x = (root_to_is parents forest x x (omega arith)).1

-- a element is hung under one at most itself
pub hung_forest : (parents : List ℕ) (i v : ℕ) → IsForest parents → i < length parents → v ≤ i →
    IsForest (set parents i v)
hung_forest parents i v forest lt le x = go (cases_eq x i)
  where
    go : (x ≡ i) ⊎ (x ≡ i → ⊥) → get_or (set parents i v) x 0 ≤ x
    go (inl e) = subst (λ (z : ℕ). get_or (set parents i v) z 0 ≤ z) (sym e)
        (subst (λ (z : ℕ). z ≤ i) (sym (get_or-set_same parents i v 0 lt)) le)
    go (inr ne) = subst (λ (z : ℕ). z ≤ x) (sym (get_or-set_other parents i x v 0 ne)) (forest x)

-- what solves the new array: as before elsewhere, and by the new element above here
pub hung_solves : (parents : List ℕ) (i v : ℕ) (g : ℕ → ℕ) → i < length parents →
    ((x : ℕ) → (x ≡ i → ⊥) → g x ≡ cond (eqb (get_or parents x 0) x) x (g (get_or parents x 0))) →
    g i ≡ cond (eqb v i) i (g v) → Solves (set parents i v) g
hung_solves parents i v g lt other here x = go (cases_eq x i)
  where
    go : (x ≡ i) ⊎ (x ≡ i → ⊥) → g x ≡ cond (eqb (get_or (set parents i v) x 0) x) x
        (g (get_or (set parents i v) x 0))
    go (inl e) = subst (λ (z : ℕ). g z ≡ cond (eqb (get_or (set parents i v) z 0) z) z
        (g (get_or (set parents i v) z 0))) (sym e) (subst (λ (w : ℕ). g i ≡ cond (eqb w i) i (g w))
        (sym (get_or-set_same parents i v 0 lt)) here)
    go (inr ne) = subst (λ (w : ℕ). g x ≡ cond (eqb w x) x (g w)) (sym (get_or-set_other parents i x v 0 ne))
        (other x ne)

-- a path is halved
pub halved : (parents : List ℕ) (i : ℕ) → IsForest parents → i < length parents → (x : ℕ) →
    root (set parents i (get_or parents (get_or parents i 0) 0)) x ≡ root parents x
halved parents i forest lt x = sym (only_root (set parents i v) (root parents)
    (hung_forest parents i v forest lt (omega arith)) (hung_solves parents i v (root parents) lt
    (λ z ne. root_solves parents forest z) here) x)
  where
    v : ℕ
    v = get_or parents (get_or parents i 0) 0

    twice : root parents i ≡ root parents v
    twice = root_above parents forest i ∙ root_above parents forest (get_or parents i 0)

    le : v ≤ i
    le = let a : get_or parents (get_or parents i 0) 0 ≤ get_or parents i 0 = forest (get_or parents i 0) in
        let b : get_or parents i 0 ≤ i = forest i in omega arith

    here : root parents i ≡ cond (eqb v i) i (root parents v)
    here = go (cases_eq v i)
      where
        go : (v ≡ i) ⊎ (v ≡ i → ⊥) → root parents i ≡ cond (eqb v i) i (root parents v)
        go (inl e) = let a : get_or parents (get_or parents i 0) 0 ≤ get_or parents i 0 =
            forest (get_or parents i 0) in let b : get_or parents i 0 ≤ i = forest i in
            root_itself parents forest i (omega arith) ∙ sym (at_root i v i (root parents v) e)
        go (inr ne) = twice ∙ sym (off_root i v i (root parents v) ne)

-- a root is hung under a lesser one, or under itself
pub hung : (parents : List ℕ) (hi lo : ℕ) → IsForest parents → hi < length parents → lo ≤ hi → root parents hi ≡ hi →
    root parents lo ≡ lo → (x : ℕ) → root (set parents hi lo) x ≡ cond (eqb (root parents x) hi) lo (root parents x)
hung parents hi lo forest lt le top low x = sym (only_root (set parents hi lo) g
    (hung_forest parents hi lo forest lt le) (hung_solves parents hi lo g lt other here) x)
  where
    g : ℕ → ℕ
    g z = cond (eqb (root parents z) hi) lo (root parents z)

    g_low : g lo ≡ lo
    g_low = go (cases_eq (root parents lo) hi)
      where
        go : (root parents lo ≡ hi) ⊎ (root parents lo ≡ hi → ⊥) → g lo ≡ lo
        go (inl e) = at_root hi (root parents lo) lo (root parents lo) e
        go (inr ne) = off_root hi (root parents lo) lo (root parents lo) ne ∙ low

    here : g hi ≡ cond (eqb lo hi) hi (g lo)
    here = at_root hi (root parents hi) lo (root parents hi) top ∙ go (cases_eq lo hi)
      where
        go : (lo ≡ hi) ⊎ (lo ≡ hi → ⊥) → lo ≡ cond (eqb lo hi) hi (g lo)
        go (inl e) = e ∙ sym (at_root hi lo hi (g lo) e)
        go (inr ne) = sym g_low ∙ sym (off_root hi lo hi (g lo) ne)

    other : (z : ℕ) → (z ≡ hi → ⊥) → g z ≡ cond (eqb (get_or parents z 0) z) z (g (get_or parents z 0))
    other z ne = go (cases_eq (get_or parents z 0) z)
      where
        go : (get_or parents z 0 ≡ z) ⊎ (get_or parents z 0 ≡ z → ⊥) →
            g z ≡ cond (eqb (get_or parents z 0) z) z (g (get_or parents z 0))
        go (inl e) = let own : root parents z ≡ z = root_itself parents forest z e in
            off_root hi (root parents z) lo (root parents z) (λ f. ne (sym own ∙ f)) ∙ own ∙
            sym (at_root z (get_or parents z 0) z (g (get_or parents z 0)) e)
        go (inr f) = ap (λ (r : ℕ). cond (eqb r hi) lo r) (root_above parents forest z) ∙
            sym (off_root z (get_or parents z 0) z (g (get_or parents z 0)) f)

-- the trees of two roots made one
pub hung_less : (parents : List ℕ) (a b : ℕ) → IsForest parents → b < length parents → a < b → root parents a ≡ a →
    root parents b ≡ b → (x : ℕ) → root (set parents b a) x ≡ united_least a b (root parents x)
hung_less parents a b forest lt less low top x = hung parents b a forest lt (omega arith) top low x ∙
    ap₂ (λ (m n : ℕ). cond (eqb (root parents x) m) n (root parents x)) (let e : b ≡ max a b = omega arith in
    e) (let e : a ≡ min a b = omega arith in e)

pub hung_more : (parents : List ℕ) (a b : ℕ) → IsForest parents → a < length parents → b ≤ a → root parents a ≡ a →
    root parents b ≡ b → (x : ℕ) → root (set parents a b) x ≡ united_least a b (root parents x)
hung_more parents a b forest lt le top low x = hung parents a b forest lt le top low x ∙
    ap₂ (λ (m n : ℕ). cond (eqb (root parents x) m) n (root parents x)) (let e : a ≡ max a b = omega arith in
    e) (let e : b ≡ min a b = omega arith in e)

-- so far the roots are as they were, and a element above the first was reached
pub record GoesUp (old parents : List ℕ) (element at : ℕ) : Type 0 where
  pub forest : IsForest parents
  pub size : length parents ≡ length old
  pub known : at < length parents
  pub same : (x : ℕ) → root parents x ≡ root old x
  pub above : root parents at ≡ root old element

pub goes_up : (old parents : List ℕ) (element at : ℕ) → GoesUp old parents element at →
    GoesUp old (set parents at (get_or parents (get_or parents at 0) 0)) element
    (get_or parents (get_or parents at 0) 0)
goes_up old parents element at goes = record {
  forest = hung_forest parents at v goes.forest goes.known le;
  size = length-set parents at v ∙ goes.size;
  known = let k : at < length parents = goes.known in subst (λ (n : ℕ). v < n) (sym (length-set parents at v))
      (omega arith);
  same = λ x. halved parents at goes.forest goes.known x ∙ goes.same x;
  above = halved parents at goes.forest goes.known v ∙ (sym (root_above parents goes.forest at ∙
      root_above parents goes.forest (get_or parents at 0)) ∙ goes.above);
}
  where
    v : ℕ
    v = get_or parents (get_or parents at 0) 0

    le : v ≤ at
    le = let a : get_or parents (get_or parents at 0) 0 ≤ get_or parents at 0 = goes.forest (get_or parents at 0) in
        let b : get_or parents at 0 ≤ at = goes.forest at in omega arith

pub gone_up : (old parents : List ℕ) (element at : ℕ) → GoesUp old parents element at → get_or parents at 0 ≡ at →
    at ≡ root old element
gone_up old parents element at goes e = sym (root_itself parents goes.forest at e) ∙ goes.above

pub root_twice : (parents : List ℕ) (r x : ℕ) → IsForest parents → r ≡ root parents x → root parents r ≡ r
root_twice parents r x forest e = ap (root parents) e ∙ (root_itself parents forest (root parents x)
    (root_is_root parents forest x) ∙ sym e)
