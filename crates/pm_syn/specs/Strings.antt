-- String literals: an optional prefix, then `'..'` or `".."` on one line, or `'''..'''` or `"""..."""`.
-- A backslash covers the next byte, but no LF in a string on one line. Three quotes always open a string of the second sort.
use Rattle.std.specs.Prelude.{◌+◌, ◌==◌, ◌&&◌, ◌||◌, ℕ, Bool, false, drop, if◌then◌else◌, List, [], ◌∷◌, Option, Some, None, option_map}
use Rattle.pm_io.specs.declared.lines.TheConstants.{LF}

-- how many bytes there are up to the quote that closes a string on one line, the quote included
abbrev pub closing_quote : ℕ → List ℕ → Option ℕ
closing_quote quote [] = None
closing_quote quote (byte ∷ []) = if byte == quote then Some 1 else None
closing_quote quote (byte ∷ next ∷ text) =
    if byte == quote then Some 1
    else if byte == LF then None
    else if byte == 92 then (if next == LF then None else option_map (λ count. count + 2) (closing_quote quote text))
    else option_map (λ count. count + 1) (closing_quote quote (next ∷ text))

-- how many bytes there are up to the three quotes that close a string of any number of lines, these included
abbrev pub closing_quotes : ℕ → List ℕ → Option ℕ
closing_quotes quote [] = None
closing_quotes quote (byte ∷ []) = None
closing_quotes quote (byte ∷ next ∷ []) = None
closing_quotes quote (byte ∷ next ∷ third ∷ text) =
    if (byte == quote && next == quote) && third == quote then Some 3
    else if byte == 92 then option_map (λ count. count + 2) (closing_quotes quote (third ∷ text))
    else option_map (λ count. count + 1) (closing_quotes quote (next ∷ third ∷ text))

-- a single or a double quote
abbrev pub is_quote : ℕ → Bool
is_quote byte = byte == 39 || byte == 34

-- `f`, `F`, `r` or `R`
abbrev pub is_prefix : ℕ → Bool
is_prefix byte = ((byte == 102 || byte == 70) || byte == 114) || byte == 82

-- two more quotes follow the first
abbrev pub are_two_more : ℕ → List ℕ → Bool
are_two_more quote [] = false
are_two_more quote (second ∷ []) = false
are_two_more quote (second ∷ third ∷ text) = second == quote && third == quote

-- how many bytes a string has, by its first quote and the text after it, if it is closed
abbrev pub length_from : ℕ → List ℕ → Option ℕ
length_from quote text =
    if are_two_more quote text then option_map (λ count. count + 3) (closing_quotes quote (drop 2 text))
    else option_map (λ count. count + 1) (closing_quote quote text)

-- how long the string is that begins with a quote, if it is closed
abbrev pub quoted_length : List ℕ → Option ℕ
quoted_length [] = None
quoted_length (quote ∷ text) = if is_quote quote then length_from quote text else None

-- how long the string is with which the text begins, if there is one
abbrev pub string_length : List ℕ → Option ℕ
string_length [] = None
string_length (byte ∷ text) =
    if is_prefix byte then option_map (λ count. count + 1) (quoted_length text) else quoted_length (byte ∷ text)
