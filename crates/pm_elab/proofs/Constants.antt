-- Constants of a width.
use Rattle.std.proofs.Common.{◌≡◌, ◌≤◌, ◌<◌, ◌-◌, ◌^◌, ℕ, refl, ap, true, false, true≢false, arith}
use Rattle.std.specs.Prelude.{◌↔◌, ◌⊎◌, ℤ, pos, negsuc, neg_ℤ, ◌<ℤ◌, ◌≤ℤ◌, Option, Some, None, IsNone, IfSome, ◌&&◌, nat_lt}
use Rattle.pm_bits.specs.Word.{Word, word_of_int}
use Rattle.pm_elab.specs.Values.{is_width, fits_width, constant_of, literal_of}

-- an option that is there exactly where a test holds
abbrev Refused : ℕ → ℕ → Type 0
Refused width n = (width ≡ 0) ⊎ ((128 < width) ⊎ (2 ^ width ≤ n))

in_width : (width n : ℕ) → (Refused width n → ⊥) → (is_width width && nat_lt n (2 ^ width)) ≡ true
in_width width n fits = grind (arith, fits)

out_of_width : (width n : ℕ) → Refused width n → (is_width width && nat_lt n (2 ^ width)) ≡ false
out_of_width width n fails = grind (arith, fails)

-- what `new` gives is the constant
pub literal_is : (width n : ℕ) (r : Option Word) → IsNone r ↔ Refused width n
    → IfSome r (λ b. b ≡ record { width = width; value = n }) → r ≡ literal_of width n
unfolding literal_of
literal_is width n (Some b) none is =
    rw (in_width width n (λ fails. true≢false (none.1 fails))) (ap Some is)
literal_is width n None none is = rw (out_of_width width n (none.0 refl)) refl

abbrev RefusedInt : ℕ → ℤ → Type 0
RefusedInt width c = (width ≡ 0) ⊎ ((128 < width) ⊎ ((c <ℤ neg_ℤ (pos (2 ^ (width - 1)))) ⊎ (pos (2 ^ width) ≤ℤ c)))

int_in_width : (width : ℕ) (c : ℤ) → (RefusedInt width c → ⊥) → (is_width width && fits_width width c) ≡ true
int_in_width width (pos n) fits = grind (arith, fits)
int_in_width width (negsuc n) fits = grind (arith, fits)

int_out_of_width : (width : ℕ) (c : ℤ) → RefusedInt width c → (is_width width && fits_width width c) ≡ false
int_out_of_width width (pos n) fails = grind (arith, fails)
int_out_of_width width (negsuc n) fails = grind (arith, fails)

-- what `of_int` gives is the constant
pub constant_is : (width : ℕ) (c : ℤ) (r : Option Word) → IsNone r ↔ RefusedInt width c
    → IfSome r (λ b. b ≡ word_of_int width c) → r ≡ constant_of width c
unfolding constant_of
constant_is width c (Some b) none is = rw (int_in_width width c (λ fails. true≢false (none.1 fails))) (ap Some is)
constant_is width c None none is = rw (int_out_of_width width c (none.0 refl)) refl
