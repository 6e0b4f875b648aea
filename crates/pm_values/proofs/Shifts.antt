-- Shifts to the left.
use Rattle.std.proofs.Common.{◌≡◌, ℕ, ◌^◌, ap, ap₂, subst, ◌∙◌, arith, true, false, Bool}
use Rattle.std.proofs.lemmas.Int.{ints, to_z-of_z}
use Rattle.std.specs.Prelude.{ℤ, pos, negsuc, ◌*ℤ◌, FitsSigned, Some, None, if◌then◌else◌, nat_le}
use Rattle.std.specs.Int.{w64, w128, cast_signed, cast_unsigned}
use Rattle.pm_values.specs.Integers.{in_range, shift_amount, shifted_left}
use Rattle.pm_values.proofs.Ranges.{in_range_wide}
use Rattle.pm_values.proofs.Turned.{wide}

shift_by : (a : ℤ) (k n : ℕ) (b : Bool) → Some n ≡ (if b then Some k else None) → (if b then in_range (a *ℤ pos (2 ^ k)) else None) ≡ in_range (a *ℤ pos (2 ^ n))
shift_by a k n true is = let same : k ≡ n = cc in ap (λ m. in_range (a *ℤ pos (2 ^ m))) same
shift_by a k n false is = absurd cc

pub shifted_by : (a b : ℤ) (n : ℕ) → Some n ≡ shift_amount b → shifted_left a b ≡ in_range (a *ℤ pos (2 ^ n))
unfolding shifted_left
shifted_by a (pos k) n is = shift_by a k n (nat_le k 63) is
shifted_by a (negsuc k) n is = absurd cc

pub shifted_wide : (a b p : ℤ) (n : ℕ) → FitsSigned w64 a → FitsSigned w64 b → Some n ≡ shift_amount (cast_signed w64 (cast_unsigned w64 b)) → p ≡ pos (2 ^ n) → FitsSigned w128 p
    → (FitsSigned w128 (wide a *ℤ cast_signed w128 (cast_unsigned w128 p)) → ⊥) → shifted_left a b ≡ None
shifted_wide a b p n fa fb amount is fp never =
    let wide_a : wide a ≡ a = omega (arith, ints) in
    let wide_p : cast_signed w128 (cast_unsigned w128 p) ≡ pos (2 ^ n) = to_z-of_z w128 p fp ∙ is in
    shifted_by a b n (amount ∙ ap shift_amount (to_z-of_z w64 b fb))
    ∙ in_range_wide (a *ℤ pos (2 ^ n)) (subst (λ z. FitsSigned w128 z → ⊥) (ap₂ (λ x y. x *ℤ y) wide_a wide_p) never)
