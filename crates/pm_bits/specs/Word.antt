-- What a value of 1 to 128 bits is: a width, and an unsigned number that fits it.
use Rattle.std.specs.Prelude.{ℕ, ◌<◌, ◌≤◌, ◌^◌, ◌/◌, ◌%◌, Bool, true, false, ℤ, pos, unsigned_abs}
use Rattle.std.specs.Int.{int_rem_euclid}

-- a width in bits and an unsigned number
pub record Word : Type 0 where
  pub width : ℕ
  pub value : ℕ

-- the width is 1 to 128, and the number fits it
pub record IsWord (w : Word) : Type 0 where
  pub positive : 1 ≤ w.width
  pub narrow : w.width ≤ 128
  pub fits : w.value < 2 ^ w.width

-- the word of a width that is a number modulo 2 to the width
abbrev pub word_of : ℕ → ℕ → Word
word_of width number = record { width = width; value = number % 2 ^ width }

-- the word of a width that is a signed number modulo 2 to the width
abbrev pub word_of_int : ℕ → ℤ → Word
word_of_int width c = record { width = width; value = unsigned_abs (int_rem_euclid c (pos (2 ^ width))) }

-- one bit: 1 for true and 0 for false
abbrev pub truth_of : Bool → Word
truth_of true = record { width = 1; value = 1 }
truth_of false = record { width = 1; value = 0 }

-- one bit of a word, 0 or 1, where bit 0 is the least significant
abbrev pub bit_of : Word → ℕ → ℕ
bit_of w i = w.value / 2 ^ i % 2
