-- A text read from its beginning, lexeme by lexeme, up to its end or to a bad token.
-- Lexemes are listed last first.
use Rattle.std.specs.Prelude.{◌≡◌, ◌≢◌, ◌==◌, ℕ, Bool, true, false, if◌then◌else◌, List, [], ◌∷◌, ◌++◌, Option, Some, None}
use Rattle.pm_syn.specs.Lexemes.{Lexeme, Stands}
use Rattle.pm_syn.specs.Positions.{line_after}
use Rattle.pm_syn.specs.declared.lexeme.Sort.{Sort}
use Rattle.pm_syn.specs.declared.lexeme.Sort.TheVariants as sort
use Rattle.pm_syn.specs.declared.token.TokenKind.TheVariants as kind
use Rattle.pm_syn.specs.declared.bracket.Bracket.{Bracket}
use Rattle.pm_syn.specs.declared.bracket.Nesting.{Nesting}
use Rattle.pm_syn.specs.declared.bracket.Nesting.TheVariants as nesting

-- the bytes of the lexemes, in the order of the text
abbrev pub bytes_of : List Lexeme → List ℕ
bytes_of [] = []
bytes_of (lexeme ∷ before) = bytes_of before ++ lexeme.bytes

-- the number of the line after the lexemes
abbrev pub line_of : List Lexeme → ℕ
line_of before = line_after (bytes_of before)

-- ---- brackets

-- the closing bracket of a pair, by its opening one
abbrev pub closing_of : ℕ → ℕ
closing_of opening = if opening == 40 then 41 else if opening == 91 then 93 else 125

-- what a lexeme does to the brackets
abbrev pub nesting_of : List ℕ → Nesting
nesting_of [] = nesting.Keeps
nesting_of (a ∷ b ∷ bytes) = nesting.Keeps
nesting_of (a ∷ []) =
    if a == 40 then nesting.Opens
    else if a == 91 then nesting.Opens
    else if a == 123 then nesting.Opens
    else if a == 41 then nesting.Closes
    else if a == 93 then nesting.Closes
    else if a == 125 then nesting.Closes
    else nesting.Keeps

-- the open brackets without the innermost one, if there is one
abbrev pub without_innermost : List Bracket → List Bracket
without_innermost [] = []
without_innermost (bracket ∷ brackets) = brackets

-- the first byte, or 0 where there is none
abbrev pub byte_of : List ℕ → ℕ
byte_of [] = 0
byte_of (byte ∷ bytes) = byte

-- the brackets that are open after a lexeme on this line, by those that were open before it
abbrev pub nested : Nesting → ℕ → ℕ → List Bracket → List Bracket
nested nesting.Opens line byte open_brackets = record { byte = byte; line = line } ∷ open_brackets
nested nesting.Closes line byte open_brackets = without_innermost open_brackets
nested nesting.Keeps line byte open_brackets = open_brackets

-- the brackets that are open, innermost first
abbrev pub brackets_of : List Lexeme → List Bracket
brackets_of [] = []
brackets_of (lexeme ∷ before) = nested (nesting_of lexeme.bytes) (line_of before) (byte_of lexeme.bytes) (brackets_of before)

-- no bracket is open
abbrev pub are_closed : List Bracket → Bool
are_closed [] = true
are_closed (bracket ∷ brackets) = false

-- the line to name for a closing bracket that doesn't fit the innermost open one: the open one's, or its own if none is open
abbrev pub wrongly_closed : ℕ → ℕ → List Bracket → Option ℕ
wrongly_closed line byte [] = Some line
wrongly_closed line byte (innermost ∷ outer) = if closing_of innermost.byte == byte then None else Some innermost.line

-- the line of the outermost open bracket, if one is open
abbrev pub unclosed : List Bracket → Option ℕ
unclosed [] = None
unclosed (outermost ∷ []) = Some outermost.line
unclosed (inner ∷ outer ∷ brackets) = unclosed (outer ∷ brackets)

-- ---- bad tokens

-- the sort of the last lexeme
abbrev pub sort_before : List Lexeme → Sort
sort_before [] = sort.Gap
sort_before (lexeme ∷ before) = lexeme.sort

-- a name directly after a number
abbrev pub is_name_after_number : Sort → Sort → Bool
is_name_after_number (sort.Token (kind.Int number)) (sort.Token kind.Name) = true
is_name_after_number _ _ = false

-- the line to name for a bracket
abbrev pub bad_nesting : Nesting → ℕ → ℕ → List Bracket → Option ℕ
bad_nesting nesting.Closes line byte open_brackets = wrongly_closed line byte open_brackets
bad_nesting nesting.Opens line byte open_brackets = None
bad_nesting nesting.Keeps line byte open_brackets = None

-- the line to name if the lexeme is a bad token after these
abbrev pub misfit : List Lexeme → Lexeme → Option ℕ
misfit before lexeme =
    if is_name_after_number (sort_before before) lexeme.sort then Some (line_of before)
    else bad_nesting (nesting_of lexeme.bytes) (line_of before) (byte_of lexeme.bytes) (brackets_of before)

-- the lexemes were read from the text, and this rest is left
pub data Reads (text : List ℕ) : List Lexeme → List ℕ → Type 0 where
  begin : Reads text [] text
  next : (before : List Lexeme) (lexeme : Lexeme) (rest : List ℕ) → Reads text before (lexeme.bytes ++ rest) → Stands lexeme.sort lexeme.bytes rest → misfit before lexeme ≡ None → Reads text (lexeme ∷ before) rest

-- the reading stops there: at the text's end, or at a bad token; with the line to name for a bad token, if there is one
pub data Stops : List Lexeme → List ℕ → Option ℕ → Type 0 where
  at_end : (before : List Lexeme) → Stops before [] (unclosed (brackets_of before))
  at_no_lexeme : (before : List Lexeme) (rest : List ℕ) → rest ≢ [] → ((lexeme : Lexeme) (after : List ℕ) → rest ≡ lexeme.bytes ++ after → Stands lexeme.sort lexeme.bytes after → ⊥) → Stops before rest (Some (line_of before))
  at_misfit : (before : List Lexeme) (lexeme : Lexeme) (after : List ℕ) (line : ℕ) → Stands lexeme.sort lexeme.bytes after → misfit before lexeme ≡ Some line → Stops before (lexeme.bytes ++ after) (Some line)
