-- What the operators do to each bit of a word, and comparisons to numbers.
use Rattle.std.specs.Prelude.{◌≡◌, ◌↔◌, ℕ, ◌+◌, ◌-◌, ◌*◌, ◌/◌, ◌%◌, ◌^◌, ◌<◌, ◌≤◌, max, nat_lt, if◌then◌else◌}
use Rattle.pm_bits.specs.Word.{Word, IsWord, bit_of, word_of}
use Rattle.pm_bits.specs.Arithmetic.{sum_of, difference_of}
use Rattle.pm_bits.specs.Bitwise.{conjunction_of, disjunction_of, exclusive_of, complement_of, left_shift_of, right_shift_of, all_set_of, any_set_of}
use Rattle.pm_bits.specs.Comparison.{equality_of, less_of, at_most_of}

-- a bit of a conjunction is the product of the bits
abbrev pub BitsOfConjunction : Type 0
BitsOfConjunction = (a b : Word) (i : ℕ) → bit_of (conjunction_of a b) i ≡ bit_of a i * bit_of b i

-- a bit of a disjunction is the greater of the bits
abbrev pub BitsOfDisjunction : Type 0
BitsOfDisjunction = (a b : Word) (i : ℕ) → bit_of (disjunction_of a b) i ≡ max (bit_of a i) (bit_of b i)

-- a bit of an exclusive or is the sum of the bits modulo 2
abbrev pub BitsOfExclusive : Type 0
BitsOfExclusive = (a b : Word) (i : ℕ) → bit_of (exclusive_of a b) i ≡ (bit_of a i + bit_of b i) % 2

-- a bit of a complement is the flipped bit
abbrev pub BitsOfComplement : Type 0
BitsOfComplement = (w : Word) (i : ℕ) → IsWord w → i < w.width → bit_of (complement_of w) i ≡ 1 - bit_of w i

-- a shift to the left moves each bit up by the second number, and zeros come in below
abbrev pub BitsOfLeftShift : Type 0
BitsOfLeftShift =
    (a b : Word) (i : ℕ) → i < a.width → bit_of (left_shift_of a b) i ≡ (if nat_lt i b.value then 0 else bit_of a (i - b.value))

-- a shift to the right moves each bit down by the second number
abbrev pub BitsOfRightShift : Type 0
BitsOfRightShift = (a b : Word) (i : ℕ) → IsWord a → bit_of (right_shift_of a b) i ≡ bit_of a (i + b.value)

-- a shift to the left is a product with a power of 2
abbrev pub LeftShiftIsProduct : Type 0
LeftShiftIsProduct = (a b : Word) → left_shift_of a b ≡ word_of a.width (a.value * 2 ^ b.value)

-- a shift to the right is a quotient by a power of 2
abbrev pub RightShiftIsQuotient : Type 0
RightShiftIsQuotient = (a b : Word) → IsWord a → right_shift_of a b ≡ word_of a.width (a.value / 2 ^ b.value)

-- words of one width with the same bits are one word
abbrev pub SameFromBits : Type 0
SameFromBits = (a b : Word) → IsWord a → IsWord b → a.width ≡ b.width → ((i : ℕ) → i < a.width → bit_of a i ≡ bit_of b i) → a ≡ b

-- all bits are set exactly when each bit is 1
abbrev pub AllSetMeans : Type 0
AllSetMeans = (w : Word) → IsWord w → ((all_set_of w).value ≡ 1) ↔ ((i : ℕ) → i < w.width → bit_of w i ≡ 1)

-- no bit is set exactly when each bit is 0
abbrev pub NoneSetMeans : Type 0
NoneSetMeans = (w : Word) → IsWord w → ((any_set_of w).value ≡ 0) ↔ ((i : ℕ) → i < w.width → bit_of w i ≡ 0)

-- an equality is 1 exactly when the words are one word
abbrev pub EqualityMeans : Type 0
EqualityMeans = (a b : Word) → a.width ≡ b.width → ((equality_of a b).value ≡ 1) ↔ (a ≡ b)

-- a comparison by less is 1 exactly when the first number is below the second
abbrev pub LessMeans : Type 0
LessMeans = (a b : Word) → ((less_of a b).value ≡ 1) ↔ (a.value < b.value)

-- a comparison by at most is 1 exactly when the first number is at most the second
abbrev pub AtMostMeans : Type 0
AtMostMeans = (a b : Word) → ((at_most_of a b).value ≡ 1) ↔ (a.value ≤ b.value)

-- a difference and what was taken away add up to the first word
abbrev pub SumOfDifference : Type 0
SumOfDifference = (a b : Word) → IsWord a → IsWord b → a.width ≡ b.width → sum_of (difference_of a b) b ≡ a
