-- How parts, joined words and extensions fit together.
use Rattle.std.specs.Prelude.{◌≡◌, ◌⊎◌, ℕ, ◌+◌, ◌-◌, ◌^◌, ◌<◌, ◌≤◌}
use Rattle.pm_bits.specs.Word.{Word, IsWord, bit_of}
use Rattle.pm_bits.specs.Arithmetic.{difference_of}
use Rattle.pm_bits.specs.Bitwise.{exclusive_of}
use Rattle.pm_bits.specs.Parts.{slice_of, with_slice_of, concatenation_of, zero_extension_of, sign_extension_of, truncation_of}

-- the high part of a concatenation is the first word
abbrev pub HighOfConcatenation : Type 0
HighOfConcatenation = (high low : Word) → IsWord high → IsWord low → slice_of (concatenation_of high low) low.width (high.width + low.width) ≡ high

-- the low part of a concatenation is the second word
abbrev pub LowOfConcatenation : Type 0
LowOfConcatenation = (high low : Word) → IsWord low → slice_of (concatenation_of high low) 0 low.width ≡ low

-- a slice at a part that was put in is the part
abbrev pub SliceOfReplaced : Type 0
SliceOfReplaced = (w : Word) (lo : ℕ) (part : Word) → IsWord part → slice_of (with_slice_of w lo part) lo (lo + part.width) ≡ part

-- a part that is put in changes no bit below or above it
abbrev pub BitsOutsideStay : Type 0
BitsOutsideStay =
    (w : Word) (lo : ℕ) (part : Word) (i : ℕ) → IsWord part → ((i < lo) ⊎ (lo + part.width ≤ i)) → bit_of (with_slice_of w lo part) i ≡ bit_of w i

-- a word that was extended by zeros is its own low part
abbrev pub TruncationOfZeroExtension : Type 0
TruncationOfZeroExtension = (w : Word) (n : ℕ) → IsWord w → w.width ≤ n → truncation_of (zero_extension_of w n) w.width ≡ w

-- a word that was extended by its sign is its own low part
abbrev pub TruncationOfSignExtension : Type 0
TruncationOfSignExtension = (w : Word) (n : ℕ) → IsWord w → w.width ≤ n → truncation_of (sign_extension_of w n) w.width ≡ w

-- the most significant bit of a width, as a word of another width
abbrev pub sign_bit_at : ℕ → ℕ → Word
sign_bit_at width n = record { width = n; value = 2 ^ (width - 1) }

-- an extension by the sign is an extension by zeros whose sign bit is flipped and then taken away
abbrev pub SignExtensionByFlip : Type 0
SignExtensionByFlip =
    (w : Word) (n : ℕ) → IsWord w → w.width ≤ n
    → sign_extension_of w n ≡ difference_of (exclusive_of (zero_extension_of w n) (sign_bit_at w.width n)) (sign_bit_at w.width n)
