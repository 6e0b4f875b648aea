-- The text of a trace.
use Rattle.std.specs.Prelude.{ℕ, zero, suc, ◌+◌, ◌*◌, ◌/◌, ◌%◌, ◌^◌, Bool, List, [], ◌∷◌, ◌++◌, slice_index, codes, decimal, if◌then◌else◌}
use Rattle.pm_bits.specs.Word.{Word}
use Rattle.pm_io.specs.declared.lines.TheConstants.{LF}

-- the given number of low hexadecimal digits of a number, in lower case
abbrev pub hex_digits : ℕ → ℕ → List ℕ
hex_digits zero number = []
hex_digits (suc n) number = slice_index (codes "0123456789abcdef") (number / 2 ^ (4 * n) % 16) ∷ hex_digits n number

-- a value in hexadecimal: a digit for each four bits, rounded up
abbrev pub hex_of : Word → List ℕ
hex_of word = hex_digits ((word.width + 3) / 4) word.value

-- a blank and a name
abbrev pub name_text : List ℕ → List ℕ
name_text name = 32 ∷ name

-- a blank and a value
abbrev pub value_text : Word → List ℕ
value_text value = 32 ∷ hex_of value

-- names, each after a blank
abbrev pub names_text : List (List ℕ) → List ℕ
names_text [] = []
names_text (name ∷ names) = name_text name ++ names_text names

-- values, each after a blank
abbrev pub values_text : List Word → List ℕ
values_text [] = []
values_text (value ∷ values) = value_text value ++ values_text values

-- `reset` as a digit
abbrev pub reset_digit : Bool → ℕ
reset_digit reset = if reset then 49 else 48

-- the number of a cycle and `reset`
abbrev pub start_text : ℕ → Bool → List ℕ
start_text cycle reset = decimal cycle ++ 32 ∷ reset_digit reset ∷ []

-- the line of names
abbrev pub head_text : List (List ℕ) → List ℕ
head_text names = (codes "cycle reset" ++ names_text names) ++ LF ∷ []

-- the line of a cycle, with the values of the ports in order
abbrev pub row_text : ℕ → Bool → List Word → List ℕ
row_text cycle reset values = (start_text cycle reset ++ values_text values) ++ LF ∷ []
