-- Operators on the bits of a word: each bit alone, all bits moved, all bits in one.
use Rattle.std.specs.Prelude.{ℕ, zero, suc, ◌+◌, ◌-◌, ◌*◌, ◌/◌, ◌%◌, ◌^◌, min, not, ◌==◌, bit_and, bit_or, bit_xor}
use Rattle.pm_bits.specs.Word.{Word, word_of, truth_of}

-- the bits that are set in both words
abbrev pub conjunction_of : Word → Word → Word
conjunction_of a b = record { width = a.width; value = bit_and a.value b.value }

-- the bits that are set in at least one word
abbrev pub disjunction_of : Word → Word → Word
disjunction_of a b = record { width = a.width; value = bit_or a.value b.value }

-- the bits that are set in exactly one of the words
abbrev pub exclusive_of : Word → Word → Word
exclusive_of a b = record { width = a.width; value = bit_xor a.value b.value }

-- the bits that are not set
abbrev pub complement_of : Word → Word
complement_of w = record { width = w.width; value = 2 ^ w.width - 1 - w.value }

-- the bits moved up by the second word's number; a move by the width or more leaves none
abbrev pub left_shift_of : Word → Word → Word
left_shift_of a b = word_of a.width (a.value * 2 ^ min b.value a.width)

-- the bits moved down by the second word's number; a move by the width or more leaves none
abbrev pub right_shift_of : Word → Word → Word
right_shift_of a b = word_of a.width (a.value / 2 ^ min b.value a.width)

-- whether each bit is set
abbrev pub all_set_of : Word → Word
all_set_of w = truth_of (w.value == 2 ^ w.width - 1)

-- whether some bit is set
abbrev pub any_set_of : Word → Word
any_set_of w = truth_of (not (w.value == 0))

-- how many of a number's lowest bits are set
unfoldable pub set_bits : ℕ → ℕ → ℕ
set_bits number zero = 0
set_bits number (suc n) = set_bits number n + number / 2 ^ n % 2

-- whether an odd number of bits is set
abbrev pub odd_set_of : Word → Word
odd_set_of w = record { width = 1; value = set_bits w.value w.width % 2 }
