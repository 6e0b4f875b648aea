-- What fits 64 bits.
use Rattle.std.proofs.Common.{◌≡◌, refl, sym, arith, true, false, Bool}
use Rattle.std.specs.Prelude.{ℤ, pos, negsuc, Option, Some, None, Result, Ok, Err, FitsSigned, if◌then◌else◌, SomeIff, OkIff}
use Rattle.std.specs.Result.{result_ok}
use Rattle.std.specs.Int.{w64, w128}
use Rattle.pm_values.specs.Integers.{fits, in_range}

pub fits_is : (z : ℤ) → FitsSigned w64 z → fits z ≡ true
fits_is (pos n) h = grind (arith, h.sfits)
fits_is (negsuc n) h = grind (arith, h.sfits)

pub fits_signed : (z : ℤ) → fits z ≡ true → FitsSigned w64 z
fits_signed (pos n) h = record { sfits = grind arith }
fits_signed (negsuc n) h = record { sfits = grind arith }

none_by : (z : ℤ) (b : Bool) → fits z ≡ b → (FitsSigned w64 z → ⊥) → None ≡ (if b then Some z else None)
none_by z true is never = absurd (never (fits_signed z is))
none_by z false is never = refl

pub in_range_is : (r : Option ℤ) (z : ℤ) → SomeIff r (FitsSigned w64 z) z → r ≡ in_range z
unfolding in_range
in_range_is (Some x) z h = rw (h.1, fits_is z h.0) refl
in_range_is None z h = none_by z (fits z) refl h

-- what doesn't fit 128 bits doesn't fit 64
pub in_range_wide : (z : ℤ) → (FitsSigned w128 z → ⊥) → in_range z ≡ None
in_range_wide z never = sym (in_range_is None z (λ h. never (record { sfits = omega (arith, h.sfits) })))

pub in_range_ok : {E : Type 0} (r : Result ℤ E) (z : ℤ) → OkIff r (FitsSigned w64 z) z → result_ok r ≡ in_range z
in_range_ok (Ok x) z h = in_range_is (Some x) z h
in_range_ok (Err e) z h = in_range_is None z h
