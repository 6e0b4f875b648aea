-- What is in lists that are made of others.
use Rattle.std.proofs.Common.{◌≡◌, ◌+◌, ◌<◌, ◌⊎◌, ◌++◌, ℕ, zero, suc, List, [], ◌∷◌, length, map, flat_map, get_or}
use Rattle.std.proofs.Common.{Bool, Contains, refl, sym, subst, inl, inr, arith}
use Rattle.std.specs.Prelude.{IsTrue}
use Rattle.std.specs.List.{list_all, range_with_len}
use Rattle.std.proofs.lemmas.List.Elements.{Contains-append_left, Contains-append_right, Contains-append_cases}
use Rattle.std.proofs.lemmas.List.FromFn.{length-range_with_len, get_or-range_with_len}
use Rattle.pm_instances.proofs.Numbers.{item_passes}

pub in_none : {X : Type 0} (y : X) → Contains [] y → ⊥
in_none y h = let l : h.0 < 0 = h.1 in omega arith

pub in_head : {X : Type 0} (x : X) (xs : List X) → Contains (x ∷ xs) x
in_head x xs = (0, omega arith, refl)

pub in_tail : {X : Type 0} (x : X) (xs : List X) (y : X) → Contains xs y → Contains (x ∷ xs) y
in_tail x xs y h = let l : h.0 < length xs = h.1 in (suc h.0, omega arith, h.2)

pub in_cons : {X : Type 0} (x : X) (xs : List X) (y : X) → Contains (x ∷ xs) y → (x ≡ y) ⊎ Contains xs y
in_cons x xs y (zero, l, e) = inl e
in_cons x xs y (suc k, l, e) = inr (k, omega arith, e)

pub in_map : {X Y : Type 0} (f : X → Y) (xs : List X) (x : X) → Contains xs x → Contains (map f xs) (f x)
in_map f [] x h = absurd (in_none x h)
in_map f (y ∷ ys) x h = go (in_cons y ys x h) (in_map f ys x)
  where
    go : (y ≡ x) ⊎ Contains ys x → (Contains ys x → Contains (map f ys) (f x)) → Contains (f y ∷ map f ys) (f x)
    go (inl e) rest = subst (λ (z : _). Contains (f y ∷ map f ys) (f z)) e (in_head (f y) (map f ys))
    go (inr has) rest = in_tail (f y) (map f ys) (f x) (rest has)

pub from_map : {X Y : Type 0} (f : X → Y) (xs : List X) (y : Y) → Contains (map f xs) y →
    (x : X) × Contains xs x × (f x ≡ y)
from_map f [] y h = absurd (in_none y h)
from_map f (x ∷ xs) y h = go (in_cons (f x) (map f xs) y h) (from_map f xs y)
  where
    go : (f x ≡ y) ⊎ Contains (map f xs) y →
        (Contains (map f xs) y → (z : _) × Contains xs z × (f z ≡ y)) → (z : _) × Contains (x ∷ xs) z × (f z ≡ y)
    go (inl e) rest = (x, in_head x xs, e)
    go (inr has) rest = let found = rest has in (found.0, in_tail x xs found.0 found.1, found.2)

pub in_flat : {X Y : Type 0} (f : X → List Y) (xs : List X) (x : X) (y : Y) → Contains xs x → Contains (f x) y →
    Contains (flat_map f xs) y
in_flat f [] x y h has = absurd (in_none x h)
in_flat f (z ∷ zs) x y h has = go (in_cons z zs x h) (λ there. in_flat f zs x y there has)
  where
    go : (z ≡ x) ⊎ Contains zs x → (Contains zs x → Contains (flat_map f zs) y) → Contains (f z ++ flat_map f zs) y
    go (inl e) rest = Contains-append_left (f z) (flat_map f zs) y (subst (λ (k : _). Contains (f k) y) (sym e) has)
    go (inr there) rest = Contains-append_right (f z) (flat_map f zs) y (rest there)

pub from_flat : {X Y : Type 0} (f : X → List Y) (xs : List X) (y : Y) → Contains (flat_map f xs) y →
    (x : X) × Contains xs x × Contains (f x) y
from_flat f [] y h = absurd (in_none y h)
from_flat f (x ∷ xs) y h = go (Contains-append_cases (f x) (flat_map f xs) y h) (from_flat f xs y)
  where
    go : Contains (f x) y ⊎ Contains (flat_map f xs) y →
        (Contains (flat_map f xs) y → (z : _) × Contains xs z × Contains (f z) y) →
        (z : _) × Contains (x ∷ xs) z × Contains (f z) y
    go (inl has) rest = (x, in_head x xs, has)
    go (inr has) rest = let found = rest has in (found.0, in_tail x xs found.0 found.1, found.2)

pub in_range : (n t : ℕ) → t < n → Contains (range_with_len 0 n) t
in_range n t lt =
    let size : length (range_with_len 0 n) ≡ n = length-range_with_len 0 n in
    let at : get_or (range_with_len 0 n) t t ≡ 0 + t = get_or-range_with_len 0 n t t lt in
    (t, omega arith, omega arith)

pub from_range : (n t : ℕ) → Contains (range_with_len 0 n) t → t < n
from_range n t h =
    let size : length (range_with_len 0 n) ≡ n = length-range_with_len 0 n in
    let known : h.0 < length (range_with_len 0 n) = h.1 in
    let within : h.0 < n = omega arith in
    let at : get_or (range_with_len 0 n) h.0 t ≡ 0 + h.0 = get_or-range_with_len 0 n h.0 t within in
    let is : get_or (range_with_len 0 n) h.0 t ≡ t = h.2 in
    omega arith

pub passes : {X : Type 0} (test : X → Bool) (xs : List X) (x : X) → IsTrue (list_all test xs) → Contains xs x →
    IsTrue (test x)
passes test xs x all h = item_passes test xs h.0 x all h.1 (sym h.2)
