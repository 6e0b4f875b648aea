-- Sums, differences and products modulo 2 to the width of the left operand.
use Rattle.std.specs.Prelude.{◌+◌, ◌-◌, ◌*◌, ◌^◌}
use Rattle.pm_bits.specs.Word.{Word, word_of}

-- the sum
abbrev pub sum_of : Word → Word → Word
sum_of a b = word_of a.width (a.value + b.value)

-- the difference, which wraps below 0
abbrev pub difference_of : Word → Word → Word
difference_of a b = word_of a.width (a.value + 2 ^ a.width - b.value)

-- the product
abbrev pub product_of : Word → Word → Word
product_of a b = word_of a.width (a.value * b.value)
