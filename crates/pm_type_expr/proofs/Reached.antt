-- Elements in reach of an index, and bits one by one.
use Rattle.std.proofs.Common.{◌≡◌, ◌∙◌, ◌≤◌, ◌<◌, ◌+◌, ◌-◌, ◌^◌, ℕ, zero, suc, List, [], ◌∷◌, refl, ap, sym, arith, length, min, take}
use Rattle.std.proofs.Math.Nat.{pow-le-pow_right}
use Rattle.pm_values.specs.declared.reference.Reference.{Reference}
use Rattle.pm_typing.specs.Picks.{bits_from, bit_part}

take_nil : {X : Type 0} (n : ℕ) → take {A = X} n [] ≡ []
take_nil zero = refl
take_nil (suc n) = refl

pub take_min : {X : Type 0} (xs : List X) (n : ℕ) → take (min (length xs) n) xs ≡ take n xs
take_min [] n = take_nil (min 0 n) ∙ sym (take_nil n)
take_min (x ∷ xs) zero =
    let none : min (suc (length xs)) 0 ≡ 0 = omega arith in
    ap (λ k. take k (x ∷ xs)) none
take_min (x ∷ xs) (suc n) =
    let one : min (suc (length xs)) (suc n) ≡ suc (min (length xs) n) = omega arith in
    ap (λ k. take k (x ∷ xs)) one ∙ ap (λ ys. x ∷ ys) (take_min xs n)

pub bits_more : (r : Reference) (k w : ℕ) → k < w → bits_from r k (w - k) ≡ bit_part r k ∷ bits_from r (k + 1) (w - (k + 1))
unfolding bits_from
bits_more r k w some =
    let left : w - k ≡ suc (w - (k + 1)) = omega (arith, some) in
    ap (λ n. bits_from r k n) left

pub bits_none : (r : Reference) (w : ℕ) → bits_from r w (w - w) ≡ []
unfolding bits_from
bits_none r w =
    let none : w - w ≡ 0 = omega arith in
    ap (λ n. bits_from r w n) none

-- a width of 64 bits or more reaches whatever a list has
pub far : (count width : ℕ) → count < 2 ^ 64 → 64 ≤ width → min count (2 ^ width) ≡ count
far count width fits wide =
    let grows : 2 ^ 64 ≤ 2 ^ width = pow-le-pow_right {n = 2} (omega arith) {i = 64} {j = width} wide in
    omega (arith, fits, grows)
