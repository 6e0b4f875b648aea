-- The words of a line and the decimal numbers that words write.
use Rattle.std.specs.Prelude.{ℕ, ◌-◌, Bool, ◌&&◌, ◌==◌, nat_lt, if◌then◌else◌, List, length, take, drop, Option, Some, None}
use Rattle.std.specs.List.{list_all, slice_split}
use Rattle.std.specs.Char.{is_digit}
use Rattle.std.specs.Str.{bytes_eq}
use Rattle.std.specs.Str.Parse.{digits_value}

-- the byte between two words
abbrev pub blank : ℕ
blank = 32

-- the byte is a blank
abbrev pub is_blank : ℕ → Bool
is_blank byte = byte == blank

-- the words of a text, with a blank between any two
abbrev pub words_of : List ℕ → List (List ℕ)
words_of text = slice_split is_blank text

-- the text after the prefix, if the text begins with it
abbrev pub without_prefix : List ℕ → List ℕ → Option (List ℕ)
without_prefix prefix text = if bytes_eq (take (length prefix) text) prefix then Some (drop (length prefix) text) else None

-- the text before the ending, if the text ends with it
abbrev pub without_ending : List ℕ → List ℕ → Option (List ℕ)
without_ending ending text =
    if bytes_eq (drop (length text - length ending) text) ending then Some (take (length text - length ending) text) else None

-- one decimal digit or more, and nothing else
abbrev pub is_decimal : List ℕ → Bool
is_decimal word = nat_lt 0 (length word) && list_all (λ byte. is_digit byte 10) word

-- the number that a word writes in decimal digits, if it is below the bound
abbrev pub number_below : ℕ → List ℕ → Option ℕ
number_below bound word =
    if is_decimal word && nat_lt (digits_value 10 word) bound then Some (digits_value 10 word) else None
