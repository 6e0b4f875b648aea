-- What a bad token is, said over the text alone.
use Rattle.std.specs.Prelude.{◌≡◌, ◌<◌, ◌≤◌, ◌^◌, ℕ, List, [], ◌∷◌, ◌++◌, All, length, take, drop}
use Rattle.pm_syn.specs.Bytes.{IsLineEnd}
use Rattle.pm_syn.specs.CutLines.{AreSeparated, IsCutFrom}
use Rattle.pm_syn.specs.Lexemes.{IsGap}
use Rattle.pm_syn.specs.Positions.{line_after}
use Rattle.pm_syn.specs.Spaces.{AreMatched, IsPair, IsSpacedUpTo}
use Rattle.pm_syn.specs.Tokens.{IsLongestToken, IsToken}
use Rattle.pm_syn.specs.declared.token.Token.{Token}
use Rattle.pm_syn.specs.declared.token.TokenKind.{TokenKind}
use Rattle.pm_syn.specs.declared.token.TokenKind.TheVariants as kind

-- ---- what a text begins with

-- no token is spelled at the beginning of the text
abbrev pub SpellsNoToken : List ℕ → Type 0
SpellsNoToken text = (kind : TokenKind) (bytes after : List ℕ) → text ≡ bytes ++ after → IsToken kind bytes after → ⊥

-- the text begins with no token, no gap and no line end
pub record BeginsNothing (text : List ℕ) : Type 0 where
  pub no_token : SpellsNoToken text
  pub no_gap : (bytes after : List ℕ) → text ≡ bytes ++ after → IsGap bytes after → ⊥
  pub no_line_end : (bytes after : List ℕ) → text ≡ bytes ++ after → IsLineEnd bytes → ⊥

-- the text begins with an integer of more than 128 bits
pub record HasWideLiteral (text : List ℕ) : Type 0 where
  pub number : ℕ
  pub bytes : List ℕ
  pub after : List ℕ
  pub is : text ≡ bytes ++ after
  pub longest : IsLongestToken (kind.Int number) bytes after
  pub wide : 2 ^ 128 ≤ number

-- ---- the text up to a position

-- the number of the line of this position
abbrev pub line_at : List ℕ → ℕ → ℕ
line_at text position = line_after (take position text)

-- an opening bracket
abbrev pub IsOpening : List ℕ → Type 0
IsOpening bytes = (closing : List ℕ) × IsPair bytes closing

-- a closing bracket
abbrev pub IsClosing : List ℕ → Type 0
IsClosing bytes = (opening : List ℕ) × IsPair opening bytes

-- these brackets are open after the tokens, innermost first, and all others match
abbrev pub AreOpenAfter : List Token → List Token → Type 0
AreOpenAfter [] tokens = AreMatched tokens
AreOpenAfter (bracket ∷ outer) tokens =
    (prefix : List Token) × (inner : List Token) × (tokens ≡ prefix ++ bracket ∷ inner) × IsOpening bracket.text × AreOpenAfter outer prefix × AreMatched inner

-- up to this position the text has these tokens with space between them, no name directly after a number, and no bracket that
-- is closed wrongly; these brackets are open there
pub record AreTokensUpTo (text : List ℕ) (position : ℕ) (tokens brackets : List Token) : Type 0 where
  pub within : position ≤ length text
  pub cut : All (IsCutFrom text) tokens
  pub separated : AreSeparated tokens
  pub spaced : IsSpacedUpTo text position 0 tokens
  pub nested : AreOpenAfter brackets tokens

-- ---- bad tokens

-- the text has a bad token, or a bracket that doesn't fit, and this line is named for it
pub data HasBadToken (text : List ℕ) : ℕ → Type 0 where
  -- no token, gap or line end begins there: a byte of no token, a backslash before no line end, a string that isn't closed
  nothing_begins : (position : ℕ) (tokens brackets : List Token) → AreTokensUpTo text position tokens brackets
      → position < length text → BeginsNothing (drop position text) → HasBadToken text (line_at text position)
  -- an integer of more than 128 bits
  too_wide : (position : ℕ) (tokens brackets : List Token) → AreTokensUpTo text position tokens brackets
      → HasWideLiteral (drop position text) → HasBadToken text (line_at text position)
  -- a name directly after a number
  name_after_number : (position : ℕ) (tokens brackets : List Token) → AreTokensUpTo text position tokens brackets
      → (prefix : List Token) (token : Token) (number : ℕ) → tokens ≡ prefix ++ token ∷ [] → token.kind ≡ kind.Int number → token.end ≡ position
      → (name after : List ℕ) → drop position text ≡ name ++ after → IsLongestToken kind.Name name after → HasBadToken text (line_at text position)
  -- a closing bracket where none is open
  never_opened : (position : ℕ) (tokens : List Token) → AreTokensUpTo text position tokens []
      → (bytes after : List ℕ) → drop position text ≡ bytes ++ after → IsLongestToken kind.Op bytes after → IsClosing bytes
      → HasBadToken text (line_at text position)
  -- a closing bracket that doesn't fit the innermost open one, whose line is named
  closed_wrongly : (position : ℕ) (tokens : List Token) (innermost : Token) (outer : List Token) → AreTokensUpTo text position tokens (innermost ∷ outer)
      → (bytes after : List ℕ) → drop position text ≡ bytes ++ after → IsLongestToken kind.Op bytes after → IsClosing bytes
      → (IsPair innermost.text bytes → ⊥) → HasBadToken text (line_at text innermost.start)
  -- brackets that are open at the end of the text, of which the outermost's line is named
  never_closed : (tokens inner : List Token) (outermost : Token) → AreTokensUpTo text (length text) tokens (inner ++ outermost ∷ [])
      → HasBadToken text (line_at text outermost.start)
