-- What is left of a list from a place on.
use Rattle.std.proofs.Common.{◌≡◌, ℕ, zero, suc, ◌+◌, ◌≤◌, length, arith, List, [], ◌∷◌, Some, None, slice_get, take, drop, ◌∙◌, ap, refl}

drop_next : {X : Type 0} (xs : List X) (n : ℕ) (x : X) → slice_get xs n ≡ Some x → drop n xs ≡ x ∷ drop (suc n) xs
drop_next [] n x h = cc
drop_next (y ∷ ys) zero x h = cc
drop_next (y ∷ ys) (suc n) x h = drop_next ys n x h

pub drop_some : {X : Type 0} (xs : List X) (n : ℕ) (x : X) → slice_get xs n ≡ Some x → drop n xs ≡ x ∷ drop (n + 1) xs
drop_some xs n x h = let next : suc n ≡ n + 1 = omega arith in drop_next xs n x h ∙ ap (λ k. x ∷ drop k xs) next

pub drop_none : {X : Type 0} (xs : List X) (n : ℕ) → slice_get xs n ≡ None → drop n xs ≡ []
drop_none [] zero h = refl
drop_none [] (suc n) h = refl
drop_none (y ∷ ys) zero h = cc
drop_none (y ∷ ys) (suc n) h = drop_none ys n h

pub drop_all : {X : Type 0} (xs : List X) (k : ℕ) → length xs ≤ k → drop k xs ≡ []
drop_all [] zero all = refl
drop_all [] (suc k) all = refl
drop_all (x ∷ xs) zero all = absurd (omega (arith, all))
drop_all (x ∷ xs) (suc k) all = drop_all xs k (omega (arith, all))

pub take_all : {X : Type 0} (xs : List X) (k : ℕ) → length xs ≤ k → take k xs ≡ xs
take_all [] zero all = refl
take_all [] (suc k) all = refl
take_all (x ∷ xs) zero all = absurd (omega (arith, all))
take_all (x ∷ xs) (suc k) all = ap (λ l. x ∷ l) (take_all xs k (omega (arith, all)))
