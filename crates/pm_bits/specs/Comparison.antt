-- Comparisons of unsigned numbers, each a word of one bit.
use Rattle.std.specs.Prelude.{not, nat_lt, nat_le, ◌==◌}
use Rattle.pm_bits.specs.Word.{Word, truth_of}

-- whether the numbers are equal
abbrev pub equality_of : Word → Word → Word
equality_of a b = truth_of (a.value == b.value)

-- whether the numbers differ
abbrev pub inequality_of : Word → Word → Word
inequality_of a b = truth_of (not (a.value == b.value))

-- whether the first number is below the second
abbrev pub less_of : Word → Word → Word
less_of a b = truth_of (nat_lt a.value b.value)

-- whether the first number is at most the second
abbrev pub at_most_of : Word → Word → Word
at_most_of a b = truth_of (nat_le a.value b.value)

-- whether the first number is above the second
abbrev pub greater_of : Word → Word → Word
greater_of a b = truth_of (nat_lt b.value a.value)

-- whether the first number is at least the second
abbrev pub at_least_of : Word → Word → Word
at_least_of a b = truth_of (nat_le b.value a.value)
