-- What the functions that read numbers return: the numbers of `specs/Values.antt` that have at most 128 bits.
use Rattle.std.specs.Prelude.{ℕ, ◌+◌, ◌*◌, ◌^◌, ◌==◌, nat_lt, if◌then◌else◌, List, [], ◌∷◌, Option, Some, None}
use Rattle.std.specs.Char.{digit_value, is_digit}
use Rattle.std.specs.Option.{option_and_then}

-- the number with one more digit
unfoldable pub followed_by : ℕ → ℕ → ℕ → Option ℕ
followed_by number base digit = if nat_lt (number * base + digit) (2 ^ 128) then Some (number * base + digit) else None

-- the number with one more byte, if that is a digit
abbrev pub with_byte : ℕ → ℕ → ℕ → Option ℕ
with_byte base number byte = if is_digit byte base then followed_by number base (digit_value byte) else None

-- the number with more bytes
abbrev pub with_bytes : ℕ → ℕ → List ℕ → Option ℕ
with_bytes base number [] = Some number
with_bytes base number (byte ∷ bytes) =
    option_and_then (λ next. with_bytes base next bytes) (with_byte base number byte)

-- the number of digits of the base
unfoldable pub number_in : ℕ → List ℕ → Option ℕ
number_in base [] = None
number_in base (byte ∷ bytes) = with_bytes base 0 (byte ∷ bytes)

-- the number after a `0`
abbrev pub number_after_zero : List ℕ → Option ℕ
number_after_zero [] = number_in 10 (48 ∷ [])
number_after_zero (letter ∷ digits) =
    if letter == 120 then number_in 16 digits
    else if letter == 98 then number_in 2 digits
    else number_in 10 (48 ∷ letter ∷ digits)

-- the number of a word
unfoldable pub number_of : List ℕ → Option ℕ
number_of [] = number_in 10 []
number_of (first ∷ others) = if first == 48 then number_after_zero others else number_in 10 (first ∷ others)
