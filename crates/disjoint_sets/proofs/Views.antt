-- A forest seen as the list of its roots.
use Rattle.std.proofs.Common.{◌≡◌, ℕ, ◌<◌, ◌≤◌, List, length, get_or, map, refl, sym, ap, ap₂, subst, ◌∙◌, ⊎_elim}
use Rattle.std.proofs.Common.{arith}
use Rattle.std.proofs.lemmas.Bool.{cases_lt}
use Rattle.std.proofs.lemmas.List.FromFn.{length-map-range_with_len, get_or-map-range_with_len, length-range_with_len}
use Rattle.std.proofs.lemmas.List.FromFn.{get_or-range_with_len}
use Rattle.std.proofs.lemmas.List.{ext_get_or, get_or_past}
use Rattle.std.proofs.lemmas.Simd.{map-map}
use Rattle.std.proofs.Math.Path.{fun_ext}
use Rattle.std.specs.List.{range_with_len}
use Rattle.disjoint_sets.specs.Forests.{IsForest, root, roots}
use Rattle.disjoint_sets.specs.Unions.{united_least, united}
use Rattle.disjoint_sets.proofs.Roots.{root_itself}

pub length-roots : (parents : List ℕ) → length (roots parents) ≡ length parents
length-roots parents = length-map-range_with_len (root parents) 0 (length parents)

pub roots_at : (parents : List ℕ) (x : ℕ) → x < length parents → get_or (roots parents) x 0 ≡ root parents x
roots_at parents x lt = get_or-map-range_with_len (root parents) 0 (length parents) x x 0 lt (omega arith)

pub roots_same : (old parents : List ℕ) → length parents ≡ length old → ((x : ℕ) → root parents x ≡ root old x) →
    roots parents ≡ roots old
roots_same old parents size same = ap₂ (λ (f : ℕ → ℕ) (n : ℕ). map f (range_with_len 0 n)) (fun_ext same) size

pub roots_united : (old parents : List ℕ) (a b : ℕ) → a < length old → b < length old → length parents ≡ length old →
    ((x : ℕ) → root parents x ≡ united_least (root old a) (root old b) (root old x)) →
    roots parents ≡ united (roots old) a b
roots_united old parents a b la lb size is = ap₂ (λ (f : ℕ → ℕ) (n : ℕ). map f (range_with_len 0 n)) (fun_ext is) size
    ∙ (sym (map-map (united_least (root old a) (root old b)) (root old) (range_with_len 0 (length old)))
    ∙ ap₂ (λ (m n : ℕ). map (united_least m n) (roots old)) (sym (roots_at old a la)) (sym (roots_at old b lb)))

-- each element names itself
pub record IsSingle (n : ℕ) (parents : List ℕ) : Type 0 where
  pub size : length parents ≡ n
  pub itself : (x : ℕ) → x < n → get_or parents x 0 ≡ x

pub single_forest : (n : ℕ) (parents : List ℕ) → IsSingle n parents → IsForest parents
single_forest n parents single x = ⊎_elim (λ (l : x < n). let e : get_or parents x 0 ≡ x = single.itself x l in
    omega arith)
    (λ (l : n ≤ x). let size : length parents ≡ n = single.size in
    let e : get_or parents x 0 ≡ 0 = get_or_past parents x 0 (omega arith) in omega arith) (cases_lt x n)

pub roots_single : (n : ℕ) (parents : List ℕ) → IsSingle n parents → roots parents ≡ range_with_len 0 n
roots_single n parents single = ext_get_or 0 (roots parents) (range_with_len 0 n) (length-roots parents ∙
    (single.size ∙ sym (length-range_with_len 0 n)))
    (λ x l. let lt : x < length parents = subst (λ (k : ℕ). x < k) (length-roots parents) l in
    let low : x < n = subst (λ (k : ℕ). x < k) single.size lt in
    roots_at parents x lt ∙ (root_itself parents (single_forest n parents single) x (single.itself x low) ∙
    sym (get_or-range_with_len 0 n x 0 low ∙ omega arith)))

-- a element of what is seen is one of the array
pub inside : (parents seen now : List ℕ) (x : ℕ) → roots parents ≡ seen → now ≡ parents → x < length seen →
    x < length now
inside parents seen now x view is lt = subst (λ (n : ℕ). x < n) (sym (ap length view) ∙
    (length-roots parents ∙ ap length (sym is))) lt

pub seen_at : (parents seen now : List ℕ) (x : ℕ) → roots parents ≡ seen → now ≡ parents → x < length seen →
    root now x ≡ get_or seen x 0
seen_at parents seen now x view is lt = ap (λ (l : List ℕ). root l x) is ∙
    (sym (roots_at parents x (inside parents seen parents x view refl lt)) ∙ ap (λ (l : List ℕ). get_or l x 0) view)

-- two paths are halved, and the roots joined
pub united_roots : (parents seen now first second last : List ℕ) (a b r s : ℕ) → roots parents ≡ seen →
    now ≡ parents → a < length seen → b < length seen →
    length first ≡ length now → length second ≡ length first → length last ≡ length second →
    ((x : ℕ) → root first x ≡ root now x) → ((x : ℕ) → root second x ≡ root first x) →
    r ≡ root now a → s ≡ root first b → ((x : ℕ) → root last x ≡ united_least r s (root second x)) →
    roots last ≡ united seen a b
united_roots parents seen now first second last a b r s view is la lb size₁ size₂ size₃ same₁ same₂ at_a at_b unites =
    roots_united parents last a b (inside parents seen parents a view refl la)
    (inside parents seen parents b view refl lb) (size₃ ∙ (size₂ ∙ (size₁ ∙ ap length is))) (λ x. unites x ∙
    (ap₂ (λ (m n : ℕ). united_least m n (root second x)) (at_a ∙ ap (λ (l : List ℕ). root l a) is) (at_b ∙
    (same₁ b ∙ ap (λ (l : List ℕ). root l b) is))
    ∙ ap (united_least (root parents a) (root parents b)) (same₂ x ∙ (same₁ x ∙ ap (λ (l : List ℕ). root l x) is))))
    ∙ ap (λ (l : List ℕ). united l a b) view

pub all_single : (element n : ℕ) (parents : List ℕ) → IsSingle element parents → n ≤ element → element ≤ n →
    IsSingle n parents
all_single element n parents single h k = subst (λ (m : ℕ). IsSingle m parents) (let e : element ≡ n = omega arith in
    e) single
