-- Each result is a word again.
use Rattle.std.proofs.Common.{◌≡◌, ℕ, pos, negsuc, ◌+◌, ◌-◌, ◌/◌, ◌^◌, ◌<◌, ◌≤◌, Bool, true, false, arith, sym, subst}
use Rattle.std.proofs.lemmas.Nat.{pow_pos, mod_below, and_le_l, or_lt, xor_lt}
use Rattle.pm_bits.specs.declared.operator.Op.TheVariants as Operator
use Rattle.pm_bits.specs.declared.operator.Fold.TheVariants as Folding
use Rattle.pm_bits.specs.Word.{IsWord, word_of, truth_of}
use Rattle.pm_bits.specs.WordLaws.{ResultIsWord, FoldingIsWord, IntIsWord, ComplementIsWord, SliceIsWord, WithSliceIsWord, ConcatenationIsWord, ZeroExtensionIsWord, SignExtensionIsWord, TruncationIsWord}
use Rattle.pm_bits.proofs.Masks.{fits_wider}
use Rattle.pm_bits.proofs.Joins.{joined_fits, replaced}
use Rattle.pm_bits.proofs.Signs.{flipped}

-- a number modulo 2 to the width
pub word_of_is_word : (width number : ℕ) → 1 ≤ width → width ≤ 128 → IsWord (word_of width number)
word_of_is_word width number positive narrow =
    record { positive = positive; narrow = narrow; fits = mod_below number (2 ^ width) (pow_pos width) }

-- one bit
pub truth_is_word : (test : Bool) → IsWord (truth_of test)
truth_is_word true = record { positive = omega arith; narrow = omega arith; fits = omega arith }
truth_is_word false = record { positive = omega arith; narrow = omega arith; fits = omega arith }

-- an operator's result
pub result_is_word : ResultIsWord
result_is_word Operator.Add a b first second widths = word_of_is_word _ _ first.positive first.narrow
result_is_word Operator.Sub a b first second widths = word_of_is_word _ _ first.positive first.narrow
result_is_word Operator.Mul a b first second widths = word_of_is_word _ _ first.positive first.narrow
result_is_word Operator.And a b first second widths =
    record { positive = first.positive; narrow = first.narrow; fits = omega (arith, and_le_l a.value b.value, first.fits) }
result_is_word Operator.Or a b first second widths =
    let fits : b.value < 2 ^ a.width = subst (λ (k : ℕ). b.value < 2 ^ k) (sym widths) second.fits in
    record { positive = first.positive; narrow = first.narrow; fits = or_lt a.width a.value b.value first.fits fits }
result_is_word Operator.Xor a b first second widths =
    let fits : b.value < 2 ^ a.width = subst (λ (k : ℕ). b.value < 2 ^ k) (sym widths) second.fits in
    record { positive = first.positive; narrow = first.narrow; fits = xor_lt a.width a.value b.value first.fits fits }
result_is_word Operator.Shl a b first second widths = word_of_is_word _ _ first.positive first.narrow
result_is_word Operator.Shr a b first second widths = word_of_is_word _ _ first.positive first.narrow
result_is_word Operator.Eq a b first second widths = truth_is_word _
result_is_word Operator.Ne a b first second widths = truth_is_word _
result_is_word Operator.Lt a b first second widths = truth_is_word _
result_is_word Operator.Le a b first second widths = truth_is_word _
result_is_word Operator.Gt a b first second widths = truth_is_word _
result_is_word Operator.Ge a b first second widths = truth_is_word _

-- a word folded into one bit
pub folding_is_word : FoldingIsWord
folding_is_word Folding.All w = truth_is_word _
folding_is_word Folding.Any w = truth_is_word _
folding_is_word Folding.Odd w = word_of_is_word 1 _ (omega arith) (omega arith)

-- a signed number at a width
pub int_is_word : IntIsWord
int_is_word width (pos n) positive narrow = word_of_is_word width n positive narrow
int_is_word width (negsuc n) positive narrow =
    record { positive = positive; narrow = narrow; fits = omega (arith, pow_pos width) }

-- a complement
pub complement_is_word : ComplementIsWord
complement_is_word w word =
    record { positive = word.positive; narrow = word.narrow; fits = omega (arith, pow_pos w.width) }

-- a slice within the width
pub slice_is_word : SliceIsWord
slice_is_word w lo hi word some within =
    word_of_is_word (hi - lo) (w.value / 2 ^ lo) (omega arith) (omega (arith, word.narrow))

-- a word with a part put in, within the width
pub with_slice_is_word : WithSliceIsWord
with_slice_is_word w lo part word other within =
    let ones : 2 ^ part.width - 1 + 1 ≡ 2 ^ part.width = omega (arith, pow_pos part.width) in
    let same = replaced w.width lo part.width (2 ^ part.width - 1) w.value part.value ones within word.narrow word.fits other.fits in
    record { positive = word.positive; narrow = word.narrow; fits = subst (λ (n : ℕ). n < 2 ^ w.width) same (mod_below _ (2 ^ w.width) (pow_pos w.width)) }

-- a concatenation of at most 128 bits
pub concatenation_is_word : ConcatenationIsWord
concatenation_is_word high low first second narrow =
    record { positive = omega (arith, first.positive); narrow = narrow; fits = joined_fits high.width low.width high.value low.value first.fits second.fits }

-- an extension by zeros
pub zero_extension_is_word : ZeroExtensionIsWord
zero_extension_is_word w n word wider narrow =
    record { positive = omega (arith, word.positive); narrow = narrow; fits = fits_wider w.width n w.value wider word.fits }

-- an extension by the sign
pub sign_extension_is_word : SignExtensionIsWord
sign_extension_is_word w n word wider narrow =
    let same = flipped w.width n w.value word.positive wider word.fits in
    record { positive = omega (arith, word.positive); narrow = narrow; fits = subst (λ (k : ℕ). k < 2 ^ n) same (mod_below _ (2 ^ n) (pow_pos n)) }

-- the low bits
pub truncation_is_word : TruncationIsWord
truncation_is_word w n word positive within = word_of_is_word n w.value positive (omega (arith, word.narrow))
