-- The values that the words of a line write.
use Rattle.std.specs.Prelude.{ℕ, ◌^◌, ◌==◌, nat_lt, if◌then◌else◌, List, [], ◌∷◌, Option, Some, None, option_map}
use Rattle.std.specs.Char.{is_digit}
use Rattle.std.specs.List.{list_all}
use Rattle.std.specs.Option.{option_and_then}
use Rattle.std.specs.Str.Parse.{digits_value}
use Rattle.pm_bits.specs.Word.{Word}

-- the number that digits of a base write, one digit or more
unfoldable pub number_in : ℕ → List ℕ → Option ℕ
number_in base [] = None
number_in base (byte ∷ bytes) =
    if list_all (λ byte. is_digit byte base) (byte ∷ bytes) then Some (digits_value base (byte ∷ bytes)) else None

-- the number after a `0`: hexadecimal after `0x`, binary after `0b`, else decimal
abbrev pub number_after_zero : List ℕ → Option ℕ
number_after_zero [] = number_in 10 (48 ∷ [])
number_after_zero (letter ∷ digits) =
    if letter == 120 then number_in 16 digits
    else if letter == 98 then number_in 2 digits
    else number_in 10 (48 ∷ letter ∷ digits)

-- the number that a word writes
unfoldable pub number_of : List ℕ → Option ℕ
number_of [] = number_in 10 []
number_of (first ∷ others) = if first == 48 then number_after_zero others else number_in 10 (first ∷ others)

-- the number as a value of this width, if it fits
abbrev pub fitted : ℕ → ℕ → Option Word
fitted width number = if nat_lt number (2 ^ width) then Some (record { width = width; value = number }) else None

-- the value of this width that a word writes
unfoldable pub value_of : ℕ → List ℕ → Option Word
value_of width word = option_and_then (fitted width) (number_of word)

-- the values that words write, one word for each width
unfoldable pub values_of : List ℕ → List (List ℕ) → Option (List Word)
values_of [] [] = Some []
values_of [] (word ∷ words) = None
values_of (width ∷ widths) [] = None
values_of (width ∷ widths) (word ∷ words) =
    option_and_then (λ value. option_map (λ values. value ∷ values) (values_of widths words)) (value_of width word)
