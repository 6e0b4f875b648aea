-- The laws of single bits.
use Rattle.std.proofs.Common.{◌≡◌, ◌↔◌, ℕ, zero, suc, ◌+◌, ◌-◌, ◌*◌, ◌/◌, ◌%◌, ◌^◌, ◌<◌, ◌≤◌, Bool, true, false, min, nat_lt, arith, ap, ap₂, sym, refl, ◌∙◌, subst, inl, inr}
use Rattle.std.specs.Prelude.{if◌then◌else◌, not, ◌==◌, nat_le}
use Rattle.std.specs.Int.{w128}
use Rattle.std.proofs.lemmas.Nat.{pow-add, pow_pos, shr_split, shr-shr, shr_le}
use Rattle.std.proofs.lemmas.Nat.Bits.{bit_at-lt, bit_at-zero, bit_at_and, bit_at_or, bit_at_xor, bit_at_not, bit_at_cat_low, bit_at_cat_high, bit_at_above, bit_at_ones, same_from_bits_below}
use Rattle.std.proofs.lemmas.Bool.{cases_lt}
use Rattle.std.proofs.lemmas.Bool.Decides.{nat_tests}
use Rattle.std.proofs.Math.Nat.{div-eq_of_lt, mul_assoc, mul-mod_left, mod-eq_of_lt, mod-add-mod, add-mod_right}
use Rattle.pm_bits.specs.Word.{Word, bit_of, word_of, truth_of}
use Rattle.pm_bits.specs.Bitwise.{left_shift_of, right_shift_of}
use Rattle.pm_bits.specs.BitLaws.{BitsOfConjunction, BitsOfDisjunction, BitsOfExclusive, BitsOfComplement, BitsOfLeftShift, BitsOfRightShift, LeftShiftIsProduct, RightShiftIsQuotient, SameFromBits, AllSetMeans, NoneSetMeans, EqualityMeans, LessMeans, AtMostMeans, SumOfDifference}
use Rattle.pm_bits.proofs.Masks.{uncut, fits_wider, cut_complement}

-- words of one width and one number are one word
pub same_word : (a b : Word) → a.width ≡ b.width → a.value ≡ b.value → a ≡ b
same_word a b widths values = ap₂ (λ (w v : ℕ). let it : Word = record { width = w; value = v } in it) widths values

-- the lower of two bits is their product
min-bits : (x y : ℕ) → x < 2 → y < 2 → min x y ≡ x * y
min-bits zero y first second = omega arith
min-bits (suc zero) y first second = omega arith
min-bits (suc (suc x)) y first second = absurd (omega arith)

-- a bit below a cut is the same bit of the whole number
pub bit_of_cut : (w n i : ℕ) → i < w → n % 2 ^ w / 2 ^ i % 2 ≡ n / 2 ^ i % 2
bit_of_cut w n i below =
    sym (bit_at_cat_low (n / 2 ^ w) w (n % 2 ^ w) i below) ∙ ap (λ (k : ℕ). k / 2 ^ i % 2) (shr_split n w)

-- a bit of a conjunction
pub bits_of_conjunction : BitsOfConjunction
bits_of_conjunction a b i = bit_at_and a.value b.value i ∙ min-bits (bit_of a i) (bit_of b i) (bit_at-lt a.value i) (bit_at-lt b.value i)

-- a bit of a disjunction
pub bits_of_disjunction : BitsOfDisjunction
bits_of_disjunction a b i = bit_at_or a.value b.value i

-- a bit of an exclusive or
pub bits_of_exclusive : BitsOfExclusive
bits_of_exclusive a b i = bit_at_xor a.value b.value i

-- a bit of a complement
pub bits_of_complement : BitsOfComplement
bits_of_complement w i word below =
    let narrow : i < 128 = omega (arith, word.narrow) in
    let wide : w.value < 2 ^ 128 = fits_wider w.width 128 w.value word.narrow word.fits in
    let cut : (2 ^ 128 - 1 - w.value) % 2 ^ w.width ≡ 2 ^ w.width - 1 - w.value = cut_complement w.width w.value word.narrow word.fits in
    ap (λ (n : ℕ). n / 2 ^ i % 2) (sym cut)
    ∙ bit_of_cut w.width (2 ^ 128 - 1 - w.value) i below
    ∙ bit_at_not w128 w.value i wide narrow

-- a bit of a shift to the left
pub bits_of_left_shift : BitsOfLeftShift
bits_of_left_shift a b i below =
    let moved : ℕ = a.value * 2 ^ min b.value a.width in
    let cut : moved % 2 ^ a.width / 2 ^ i % 2 ≡ moved / 2 ^ i % 2 = bit_of_cut a.width moved i below in
    let more : moved / 2 ^ i % 2 ≡ (moved + 0) / 2 ^ i % 2 = ap (λ (n : ℕ). n / 2 ^ i % 2) (omega arith) in
    elim (cases_lt i b.value) as (λ _. bit_of (left_shift_of a b) i ≡ (if nat_lt i b.value then 0 else bit_of a (i - b.value))) [
      | inl under ↦
          let places : i < min b.value a.width = omega arith in
          let none : (moved + 0) / 2 ^ i % 2 ≡ 0 = bit_at_cat_low a.value (min b.value a.width) 0 i places ∙ bit_at-zero i in
          cut ∙ more ∙ none ∙ grind (arith, nat_tests)
      | inr over ↦
          let places : min b.value a.width ≡ b.value = omega arith in
          let bit : (moved + 0) / 2 ^ i % 2 ≡ bit_of a (i - min b.value a.width) =
          bit_at_cat_high a.value (min b.value a.width) 0 i (pow_pos (min b.value a.width)) (omega arith) in
          cut ∙ more ∙ bit ∙ ap (λ (k : ℕ). bit_of a (i - k)) places ∙ grind (arith, nat_tests)
    ]

-- a bit of a shift to the right
pub bits_of_right_shift : BitsOfRightShift
bits_of_right_shift a b i word =
    let m : ℕ = min b.value a.width in
    let fits : a.value / 2 ^ m < 2 ^ a.width = omega (arith, shr_le a.value m, word.fits) in
    let whole : a.value / 2 ^ m % 2 ^ a.width / 2 ^ i % 2 ≡ a.value / 2 ^ (m + i) % 2 =
    ap (λ (n : ℕ). n / 2 ^ i % 2) (uncut a.width (a.value / 2 ^ m) fits) ∙ ap (λ (n : ℕ). n % 2) (shr-shr a.value m i) in
    elim (cases_lt a.width b.value) as (λ _. bit_of (right_shift_of a b) i ≡ bit_of a (i + b.value)) [
      | inl out ↦
          whole ∙ bit_at_above a.value a.width (m + i) word.fits (omega arith)
          ∙ sym (bit_at_above a.value a.width (i + b.value) word.fits (omega arith))
      | inr inside ↦ whole ∙ ap (λ (k : ℕ). a.value / 2 ^ k % 2) (omega arith)
    ]

-- a shift to the left, as a product
pub left_shift_is_product : LeftShiftIsProduct
left_shift_is_product a b =
    elim (cases_lt a.width b.value) as (λ _. left_shift_of a b ≡ word_of a.width (a.value * 2 ^ b.value)) [
      | inl out ↦
          let places : min b.value a.width ≡ a.width = omega arith in
          let split : b.value - a.width + a.width ≡ b.value = omega arith in
          let power : 2 ^ b.value ≡ 2 ^ (b.value - a.width) * 2 ^ a.width =
          ap (λ (k : ℕ). 2 ^ k) (sym split) ∙ pow-add 2 (b.value - a.width) a.width in
          let whole : a.value * 2 ^ b.value ≡ a.value * 2 ^ (b.value - a.width) * 2 ^ a.width =
          ap (λ (n : ℕ). a.value * n) power ∙ sym (mul_assoc a.value (2 ^ (b.value - a.width)) (2 ^ a.width)) in
          same_word _ _ refl
          (ap (λ (k : ℕ). a.value * 2 ^ k % 2 ^ a.width) places
          ∙ mul-mod_left a.value (2 ^ a.width)
          ∙ sym (mul-mod_left (a.value * 2 ^ (b.value - a.width)) (2 ^ a.width))
          ∙ ap (λ (n : ℕ). n % 2 ^ a.width) (sym whole))
      | inr inside ↦
          let places : min b.value a.width ≡ b.value = omega arith in
          ap (λ (k : ℕ). word_of a.width (a.value * 2 ^ k)) places
    ]

-- a shift to the right, as a quotient
pub right_shift_is_quotient : RightShiftIsQuotient
right_shift_is_quotient a b word =
    elim (cases_lt a.width b.value) as (λ _. right_shift_of a b ≡ word_of a.width (a.value / 2 ^ b.value)) [
      | inl out ↦
          let places : min b.value a.width ≡ a.width = omega arith in
          let wider : a.width ≤ b.value = omega arith in
          let none : a.value / 2 ^ a.width ≡ 0 = div-eq_of_lt word.fits in
          let beyond : a.value / 2 ^ b.value ≡ 0 = div-eq_of_lt (fits_wider a.width b.value a.value wider word.fits) in
          ap (λ (k : ℕ). word_of a.width (a.value / 2 ^ k)) places ∙ ap (word_of a.width) (none ∙ sym beyond)
      | inr inside ↦
          let places : min b.value a.width ≡ b.value = omega arith in
          ap (λ (k : ℕ). word_of a.width (a.value / 2 ^ k)) places
    ]

-- words of one width with the same bits are one word
pub same_from_bits : SameFromBits
same_from_bits a b first second widths bits =
    let fits : b.value < 2 ^ a.width = subst (λ (k : ℕ). b.value < 2 ^ k) (sym widths) second.fits in
    same_word a b widths (same_from_bits_below a.width a.value b.value first.fits fits bits)

-- one bit is 1 exactly when it is made of true
truth-one : (test : Bool) → ((truth_of test).value ≡ 1) ↔ (test ≡ true)
truth-one true = (λ _. refl, λ _. refl)
truth-one false = (λ same. absurd (omega arith), λ same. absurd (cc))

-- one bit is 0 exactly when it is made of false
truth-zero : (test : Bool) → ((truth_of test).value ≡ 0) ↔ (test ≡ false)
truth-zero true = (λ same. absurd (omega arith), λ same. absurd (cc))
truth-zero false = (λ _. refl, λ _. refl)

-- when all bits are set
pub all_set_means : AllSetMeans
all_set_means w word =
    let ones : 2 ^ w.width - 1 < 2 ^ w.width = omega (arith, pow_pos w.width) in (
      (λ one i below.
          let same : w.value ≡ 2 ^ w.width - 1 = grind (arith, nat_tests, (truth-one (w.value == 2 ^ w.width - 1)).0 one) in
          ap (λ (n : ℕ). n / 2 ^ i % 2) same ∙ bit_at_ones w.width i below),
      (λ bits.
          let same : w.value ≡ 2 ^ w.width - 1 =
          same_from_bits_below w.width w.value (2 ^ w.width - 1) word.fits ones (λ i below. bits i below ∙ sym (bit_at_ones w.width i below)) in
          (truth-one (w.value == 2 ^ w.width - 1)).1 (grind (arith, nat_tests))),
    )

-- when no bit is set
pub none_set_means : NoneSetMeans
none_set_means w word = (
  (λ none i below.
      let same : w.value ≡ 0 = grind (arith, nat_tests, (truth-zero (not (w.value == 0))).0 none) in
      ap (λ (n : ℕ). n / 2 ^ i % 2) same ∙ bit_at-zero i),
  (λ bits.
      let same : w.value ≡ 0 =
      same_from_bits_below w.width w.value 0 word.fits (pow_pos w.width) (λ i below. bits i below ∙ sym (bit_at-zero i)) in
      (truth-zero (not (w.value == 0))).1 (grind (arith, nat_tests))),
)

-- when an equality is 1
pub equality_means : EqualityMeans
equality_means a b widths = (
  (λ one. same_word a b widths (grind (arith, nat_tests, (truth-one (a.value == b.value)).0 one))),
  (λ same. (truth-one (a.value == b.value)).1 (let values : a.value ≡ b.value = ap (λ (w : Word). w.value) same in grind (arith, nat_tests))),
)

-- when a comparison by less is 1
pub less_means : LessMeans
less_means a b = (
  (λ one. grind (arith, nat_tests, (truth-one (nat_lt a.value b.value)).0 one)),
  (λ below. (truth-one (nat_lt a.value b.value)).1 (grind (arith, nat_tests))),
)

-- when a comparison by at most is 1
pub at_most_means : AtMostMeans
at_most_means a b = (
  (λ one. grind (arith, nat_tests, (truth-one (nat_le a.value b.value)).0 one)),
  (λ below. (truth-one (nat_le a.value b.value)).1 (grind (arith, nat_tests))),
)

-- a difference and what was taken away
pub sum_of_difference : SumOfDifference
sum_of_difference a b first second widths =
    let fits : b.value < 2 ^ a.width = subst (λ (k : ℕ). b.value < 2 ^ k) (sym widths) second.fits in
    let back : a.value + 2 ^ a.width - b.value + b.value ≡ a.value + 2 ^ a.width = omega arith in
    let sum : ((a.value + 2 ^ a.width - b.value) % 2 ^ a.width + b.value) % 2 ^ a.width ≡ a.value =
    mod-add-mod (a.value + 2 ^ a.width - b.value) (2 ^ a.width) b.value
    ∙ ap (λ (n : ℕ). n % 2 ^ a.width) back
    ∙ add-mod_right a.value (2 ^ a.width)
    ∙ mod-eq_of_lt first.fits in
    ap (λ (n : ℕ). let it : Word = record { width = a.width; value = n } in it) sum
