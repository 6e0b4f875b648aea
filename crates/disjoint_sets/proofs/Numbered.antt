-- Classes numbered one after another.
use Rattle.std.proofs.Common.{◌≡◌, ℕ, ◌+◌, ◌<◌, ◌≤◌, ◌⊎◌, List, [], ◌∷◌, ◌++◌, length, get_or, Bool, true, false}
use Rattle.std.proofs.Common.{cond, refl, sym, ap, subst, ◌∙◌, inl, inr, ⊎_elim, arith, eq-eqb, ne_eqb, add-one}
use Rattle.std.proofs.lemmas.Bool.{cases_eq, cases_lt}
use Rattle.std.proofs.lemmas.List.{ext_get_or, get_or_push, get_or-map, get_or_append_left, get_or_default}
use Rattle.std.proofs.lemmas.List.{length-append, length-map}
use Rattle.disjoint_sets.specs.Forests.{IsForest, root, roots}
use Rattle.disjoint_sets.specs.Unions.{count_below, is_least, numbers_of}
use Rattle.disjoint_sets.proofs.Roots.{root_itself, root_above, root_le}
use Rattle.disjoint_sets.proofs.Views.{roots_at, length-roots}

abbrev pub number : List ℕ → ℕ → ℕ
number parents c = count_below c (is_least (roots parents))

pub record AreNumbered (parents numbers : List ℕ) (element count : ℕ) : Type 0 where
  pub size : length numbers ≡ element
  pub counted : count ≡ number parents element
  pub few : count ≤ element
  pub known : element ≤ length parents
  pub tell : (x : ℕ) → x < element → get_or numbers x 0 ≡ number parents (root parents x)

pub none_numbered : (parents : List ℕ) → AreNumbered parents [] 0 0
unfolding count_below
none_numbered parents = record {
  size = refl;
  counted = refl;
  few = omega arith;
  known = omega arith;
  tell =
      λ x l. absurd (omega arith);
}

number_suc : (parents : List ℕ) (n : ℕ) → number parents (n + 1) ≡ cond
    (is_least (roots parents) n) 1 0 + number parents n
unfolding count_below
number_suc parents n = ap (number parents) (add-one n)

pushed : (xs : List ℕ) (v element : ℕ) (f : ℕ → ℕ) → length xs ≡ element →
    ((x : ℕ) → x < element → get_or xs x 0 ≡ f x) → v ≡ f element → (x : ℕ) → x < element + 1 →
    get_or (xs ++ v ∷ []) x 0 ≡ f x
pushed xs v element f size tell is x l = go (cases_eq x element)
  where
    go : (x ≡ element) ⊎ (x ≡ element → ⊥) → get_or (xs ++ v ∷ []) x 0 ≡ f x
    go (inl e) = get_or_push xs v 0 x (size ∙ sym e) ∙ (is ∙ ap f (sym e))
    go (inr ne) = get_or_append_left xs (v ∷ []) 0 x (low (cases_lt x element)) ∙ tell x (below (cases_lt x element))
      where
        below : (x < element) ⊎ (element ≤ x) → x < element
        below (inl h) = h
        below (inr h) = absurd (ne (omega arith))

        low : (x < element) ⊎ (element ≤ x) → x < length xs
        low h = subst (λ (k : ℕ). x < k) (sym size) (below h)

pub root_numbered : (parents numbers : List ℕ) (element count : ℕ) → IsForest parents → element < length parents →
    get_or parents element 0 ≡ element → AreNumbered parents numbers element count →
    AreNumbered parents (numbers ++ count ∷ []) (element + 1) (count + 1)
root_numbered parents numbers element count forest lt e so_far = record {
  size = length-append numbers (count ∷ []) ∙ ap (λ (k : ℕ). k + 1) so_far.size;
  counted = let c : count ≡ number parents element = so_far.counted in
      sym (number_suc parents element ∙ (ap (λ (t : Bool). cond t 1 0 + number parents element) least ∙
      omega arith));
  few = let f : count ≤ element = so_far.few in omega arith;
  known = omega arith;
  tell = pushed numbers count element (λ x. number parents (root parents x)) so_far.size so_far.tell
      (so_far.counted ∙ ap (number parents) (sym own));
}
  where
    own : root parents element ≡ element
    own = root_itself parents forest element e

    least : is_least (roots parents) element ≡ true
    least = eq-eqb (get_or (roots parents) element 0) element (roots_at parents element lt ∙ own)

pub other_numbered : (parents numbers : List ℕ) (element count value : ℕ) → IsForest parents →
    element < length parents → (get_or parents element 0 ≡ element → ⊥) →
    value ≡ get_or numbers (get_or parents element 0) 0 → AreNumbered parents numbers element count →
    AreNumbered parents (numbers ++ value ∷ []) (element + 1) count
other_numbered parents numbers element count value forest lt ne is so_far = record {
  size = length-append numbers (value ∷ []) ∙ ap (λ (k : ℕ). k + 1) so_far.size;
  counted = so_far.counted ∙ sym (number_suc parents element ∙
      (ap (λ (t : Bool). cond t 1 0 + number parents element) least ∙ omega arith));
  few = let f : count ≤ element = so_far.few in omega arith;
  known = omega arith;
  tell = pushed numbers value element (λ x. number parents (root parents x)) so_far.size so_far.tell (is ∙
      (so_far.tell (get_or parents element 0) low ∙ ap (number parents) (sym (root_above parents forest element))));
}
  where
    low : get_or parents element 0 < element
    low = let l : get_or parents element 0 ≤ element = forest element in
        ⊎_elim (λ (h : get_or parents element 0 < element). h)
        (λ (h : element ≤ get_or parents element 0). absurd (ne (omega arith)))
        (cases_lt (get_or parents element 0) element)

    lower : root parents element ≡ element → ⊥
    lower e = let l : root parents (get_or parents element 0) ≤ get_or parents element 0 =
        root_le parents forest (get_or parents element 0) in let a : root parents element ≡ root parents
        (get_or parents element 0) = root_above parents forest element in omega arith

    least : is_least (roots parents) element ≡ false
    least = ne_eqb (get_or (roots parents) element 0) element (λ h. lower (sym (roots_at parents element lt) ∙ h))

pub all_numbered : (parents numbers : List ℕ) (count : ℕ) → AreNumbered parents numbers (length parents) count →
    numbers ≡ numbers_of (roots parents)
all_numbered parents numbers count all = ext_get_or 0 numbers (numbers_of (roots parents)) (all.size ∙
    sym (length-map (roots parents) (number parents) ∙ length-roots parents))
    (λ x l. let lt : x < length parents = subst (λ (k : ℕ). x < k) all.size l in all.tell x lt ∙
    sym (get_or-map (number parents) (roots parents) x 0 0
    (subst (λ (k : ℕ). x < k) (sym (length-roots parents)) lt) ∙ ap (number parents) (roots_at parents x lt)))

pub root_pushed : (parents numbers new : List ℕ) (element count next above : ℕ) → IsForest parents →
    element < length parents → above ≡ get_or parents element above → above ≡ element →
    AreNumbered parents numbers element count → new ≡ numbers ++ count ∷ [] → next ≡ count + 1 →
    AreNumbered parents new (element + 1) next
root_pushed parents numbers new element count next above forest lt at e so_far is one =
    subst (λ (n : ℕ). AreNumbered parents new (element + 1) n) (sym one)
    (subst (λ (l : List ℕ). AreNumbered parents l (element + 1) (count + 1)) (sym is)
    (root_numbered parents numbers element count forest lt (get_or_default parents element 0 above lt ∙
    (sym at ∙ e)) so_far))

pub other_pushed : (parents numbers new : List ℕ) (element count next above value : ℕ) → IsForest parents →
    element < length parents → above ≡ get_or parents element above → (above ≡ element → ⊥) →
    value ≡ get_or numbers above value → AreNumbered parents numbers element count → new ≡ numbers ++ value ∷ [] →
    next ≡ count → AreNumbered parents new (element + 1) next
other_pushed parents numbers new element count next above value forest lt at ne gives so_far is same =
    subst (λ (n : ℕ). AreNumbered parents new (element + 1) n) (sym same)
    (subst (λ (l : List ℕ). AreNumbered parents l (element + 1) count) (sym is)
    (other_numbered parents numbers element count value forest lt (λ e. ne (here ∙ e)) (gives ∙
    (get_or_default numbers above value 0 low ∙ ap (λ (i : ℕ). get_or numbers i 0) here)) so_far))
  where
    here : above ≡ get_or parents element 0
    here = at ∙ get_or_default parents element above 0 lt

    low : above < length numbers
    low = let l : get_or parents element 0 ≤ element = forest element in
        let h : above ≡ get_or parents element 0 = here in let s : length numbers ≡ element = so_far.size in
        ⊎_elim (λ (k : above < element). omega arith) (λ (k : element ≤ above). absurd (ne (omega arith)))
        (cases_lt above element)

pub all_counted : (parents numbers seen : List ℕ) (count : ℕ) → AreNumbered parents numbers (length parents) count →
    roots parents ≡ seen → count ≡ count_below (length seen) (is_least seen)
all_counted parents numbers seen count all view =
    all.counted ∙ (ap (λ (n : ℕ). count_below n (is_least (roots parents))) (sym (length-roots parents))
    ∙ ap (λ (l : List ℕ). count_below (length l) (is_least l)) view)
