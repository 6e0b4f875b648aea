-- Each result is a word again: its number fits its width.
use Rattle.std.specs.Prelude.{◌≡◌, ℕ, ℤ, ◌+◌, ◌<◌, ◌≤◌}
use Rattle.pm_bits.specs.declared.operator.Op.{Op}
use Rattle.pm_bits.specs.declared.operator.Fold.{Fold}
use Rattle.pm_bits.specs.Word.{Word, IsWord, word_of_int}
use Rattle.pm_bits.specs.Bitwise.{complement_of}
use Rattle.pm_bits.specs.Operator.{result_of, folding_of}
use Rattle.pm_bits.specs.Parts.{slice_of, with_slice_of, concatenation_of, zero_extension_of, sign_extension_of, truncation_of}

-- an operator's result on two words of one width
abbrev pub ResultIsWord : Type 0
ResultIsWord = (op : Op) (a b : Word) → IsWord a → IsWord b → a.width ≡ b.width → IsWord (result_of op a b)

-- a word folded into one bit
abbrev pub FoldingIsWord : Type 0
FoldingIsWord = (fold : Fold) (w : Word) → IsWord (folding_of fold w)

-- a signed number at a width
abbrev pub IntIsWord : Type 0
IntIsWord = (width : ℕ) (c : ℤ) → 1 ≤ width → width ≤ 128 → IsWord (word_of_int width c)

-- a complement
abbrev pub ComplementIsWord : Type 0
ComplementIsWord = (w : Word) → IsWord w → IsWord (complement_of w)

-- a slice within the width
abbrev pub SliceIsWord : Type 0
SliceIsWord = (w : Word) (lo hi : ℕ) → IsWord w → lo < hi → hi ≤ w.width → IsWord (slice_of w lo hi)

-- a word with a part put in, within the width
abbrev pub WithSliceIsWord : Type 0
WithSliceIsWord = (w : Word) (lo : ℕ) (part : Word) → IsWord w → IsWord part → lo + part.width ≤ w.width → IsWord (with_slice_of w lo part)

-- a concatenation of at most 128 bits
abbrev pub ConcatenationIsWord : Type 0
ConcatenationIsWord = (high low : Word) → IsWord high → IsWord low → high.width + low.width ≤ 128 → IsWord (concatenation_of high low)

-- an extension by zeros
abbrev pub ZeroExtensionIsWord : Type 0
ZeroExtensionIsWord = (w : Word) (n : ℕ) → IsWord w → w.width ≤ n → n ≤ 128 → IsWord (zero_extension_of w n)

-- an extension by the sign
abbrev pub SignExtensionIsWord : Type 0
SignExtensionIsWord = (w : Word) (n : ℕ) → IsWord w → w.width ≤ n → n ≤ 128 → IsWord (sign_extension_of w n)

-- the low bits
abbrev pub TruncationIsWord : Type 0
TruncationIsWord = (w : Word) (n : ℕ) → IsWord w → 1 ≤ n → n ≤ w.width → IsWord (truncation_of w n)
