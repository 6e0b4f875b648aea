-- The laws of parts, joined words and extensions.
use Rattle.std.proofs.Common.{◌≡◌, ℕ, ◌+◌, ◌-◌, ◌*◌, ◌/◌, ◌%◌, ◌^◌, ◌<◌, ◌≤◌, nat_lt, arith, ap, ap₂, sym, refl, ◌∙◌, subst, inl, inr}
use Rattle.std.specs.Prelude.{if◌then◌else◌}
use Rattle.std.proofs.lemmas.Nat.{pow_pos, pow-add, shr_high, mod_low, mod_below, shr_split}
use Rattle.std.proofs.lemmas.Nat.Bits.{bit_at_cat_low, bit_at_cat_high}
use Rattle.std.proofs.lemmas.Bool.{cases_lt}
use Rattle.std.proofs.lemmas.Bool.Decides.{nat_tests}
use Rattle.std.proofs.Math.Nat.{mod-eq_of_lt, div-one, add-mul-mod_self_right, pow-le-pow_right}
use Rattle.std.proofs.Math.Pow.{high_ones}
use Rattle.pm_bits.specs.Word.{Word}
use Rattle.pm_bits.specs.Parts.{with_slice_of, sign_extension_of, truncation_of}
use Rattle.pm_bits.specs.PartLaws.{HighOfConcatenation, LowOfConcatenation, SliceOfReplaced, BitsOutsideStay, TruncationOfZeroExtension, TruncationOfSignExtension, SignExtensionByFlip}
use Rattle.pm_bits.proofs.Joins.{joined_fits, regrouped}
use Rattle.pm_bits.proofs.Signs.{flipped}
use Rattle.pm_bits.proofs.OnBits.{same_word, bit_of_cut}

-- the high part of a concatenation
pub high_of_concatenation : HighOfConcatenation
high_of_concatenation high low first second =
    let width : high.width + low.width - low.width ≡ high.width = omega arith in
    let value : (high.value * 2 ^ low.width + low.value) / 2 ^ low.width ≡ high.value = shr_high high.value low.width low.value second.fits in
    same_word _ _ width
    (ap₂ (λ (n k : ℕ). n % 2 ^ k) value width ∙ mod-eq_of_lt first.fits)

-- the low part of a concatenation
pub low_of_concatenation : LowOfConcatenation
low_of_concatenation high low second =
    let width : low.width - 0 ≡ low.width = omega arith in
    same_word _ _ width
    (ap₂ (λ (n k : ℕ). n % 2 ^ k) (div-one (high.value * 2 ^ low.width + low.value)) width
    ∙ mod_low high.value low.width low.value second.fits)

-- a number in three parts: above some bits, those bits, and below them
three_parts : (w : Word) (lo : ℕ) (part : Word)
    → (with_slice_of w lo part).value ≡ (w.value / 2 ^ (lo + part.width) * 2 ^ part.width + part.value) * 2 ^ lo + w.value % 2 ^ lo
three_parts w lo part =
    ap (λ (n : ℕ). w.value % 2 ^ lo + part.value * 2 ^ lo + w.value / 2 ^ (lo + part.width) * n) (pow-add 2 lo part.width)
    ∙ sym (regrouped (w.value / 2 ^ (lo + part.width)) part.value (w.value % 2 ^ lo) (2 ^ part.width) (2 ^ lo))

-- a part that was put in, read again
pub slice_of_replaced : SliceOfReplaced
slice_of_replaced w lo part word =
    let top : ℕ = w.value / 2 ^ (lo + part.width) in
    let width : lo + part.width - lo ≡ part.width = omega arith in
    let low : w.value % 2 ^ lo < 2 ^ lo = mod_below w.value (2 ^ lo) (pow_pos lo) in
    let down : (with_slice_of w lo part).value / 2 ^ lo ≡ top * 2 ^ part.width + part.value =
    ap (λ (n : ℕ). n / 2 ^ lo) (three_parts w lo part) ∙ shr_high (top * 2 ^ part.width + part.value) lo (w.value % 2 ^ lo) low in
    same_word _ _ width
    (ap₂ (λ (n k : ℕ). n % 2 ^ k) down width ∙ mod_low top part.width part.value word.fits)

-- the bits outside a part that is put in
pub bits_outside_stay : BitsOutsideStay
bits_outside_stay w lo part i word (inl below) =
    let top : ℕ = w.value / 2 ^ (lo + part.width) in
    ap (λ (n : ℕ). n / 2 ^ i % 2) (three_parts w lo part)
    ∙ bit_at_cat_low (top * 2 ^ part.width + part.value) lo (w.value % 2 ^ lo) i below
    ∙ bit_of_cut lo w.value i below
bits_outside_stay w lo part i word (inr above) =
    let place : ℕ = lo + part.width in
    let top : ℕ = w.value / 2 ^ place in
    let low : w.value % 2 ^ lo < 2 ^ lo = mod_below w.value (2 ^ lo) (pow_pos lo) in
    let order : part.width + lo ≡ place = omega arith in
    let fits : part.value * 2 ^ lo + w.value % 2 ^ lo < 2 ^ place =
    subst (λ (k : ℕ). part.value * 2 ^ lo + w.value % 2 ^ lo < 2 ^ k) order (joined_fits part.width lo part.value (w.value % 2 ^ lo) word.fits low) in
    let turned : (with_slice_of w lo part).value ≡ top * 2 ^ place + (part.value * 2 ^ lo + w.value % 2 ^ lo) = omega arith in
    ap (λ (n : ℕ). n / 2 ^ i % 2) turned
    ∙ bit_at_cat_high top place (part.value * 2 ^ lo + w.value % 2 ^ lo) i fits above
    ∙ sym (bit_at_cat_high top place (w.value % 2 ^ place) i (mod_below w.value (2 ^ place) (pow_pos place)) above)
    ∙ ap (λ (n : ℕ). n / 2 ^ i % 2) (shr_split w.value place)

-- the low part of an extension by zeros
pub truncation_of_zero_extension : TruncationOfZeroExtension
truncation_of_zero_extension w n word wider = same_word _ _ refl (mod-eq_of_lt word.fits)

-- the low part of an extension by the sign
pub truncation_of_sign_extension : TruncationOfSignExtension
truncation_of_sign_extension w n word wider =
    let half : ℕ = 2 ^ (w.width - 1) in
    let whole : n - w.width + w.width ≡ n = omega arith in
    let above : 2 ^ n - 2 ^ w.width ≡ (2 ^ (n - w.width) - 1) * 2 ^ w.width =
    subst (λ (k : ℕ). 2 ^ k - 2 ^ w.width ≡ (2 ^ (n - w.width) - 1) * 2 ^ w.width) whole (high_ones (n - w.width) w.width) in
    let room : 2 ^ w.width ≤ 2 ^ n = pow-le-pow_right {n = 2} (omega arith) wider in
    let plain : w.value % 2 ^ w.width ≡ w.value = mod-eq_of_lt word.fits in
    elim (cases_lt w.value half) as (λ _. truncation_of (sign_extension_of w n) w.width ≡ w) [
      | inl low ↦
          let kept : (if nat_lt w.value half then w.value else w.value + 2 ^ n - 2 ^ w.width) ≡ w.value = grind (arith, nat_tests) in
          same_word _ _ refl (ap (λ (k : ℕ). k % 2 ^ w.width) kept ∙ plain)
      | inr high ↦
          let filled : (if nat_lt w.value half then w.value else w.value + 2 ^ n - 2 ^ w.width) ≡ w.value + 2 ^ n - 2 ^ w.width = grind (arith, nat_tests) in
          let apart : w.value + 2 ^ n - 2 ^ w.width ≡ w.value + (2 ^ (n - w.width) - 1) * 2 ^ w.width = omega arith in
          same_word _ _ refl
          (ap (λ (k : ℕ). k % 2 ^ w.width) (filled ∙ apart)
          ∙ add-mul-mod_self_right w.value (2 ^ (n - w.width) - 1) (2 ^ w.width)
          ∙ plain)
    ]

-- an extension by the sign, by its flipped sign bit
pub sign_extension_by_flip : SignExtensionByFlip
sign_extension_by_flip w n word wider = same_word _ _ refl (sym (flipped w.width n w.value word.positive wider word.fits))
