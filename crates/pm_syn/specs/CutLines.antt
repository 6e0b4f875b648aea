-- Logical lines that are cut from a text.
use Rattle.std.specs.Prelude.{◌≡◌, ◌<◌, ◌≤◌, ℕ, List, ◌∷◌, All, length, take, drop, replicate}
use Rattle.std.specs.List.{AllPairs, between, flat_map}
use Rattle.pm_syn.specs.Lexemes.{HasWidth}
use Rattle.pm_syn.specs.Positions.{last_line, line_after}
use Rattle.pm_syn.specs.Tokens.{IsLongestToken}
use Rattle.pm_syn.specs.declared.token.Line.{Line}
use Rattle.pm_syn.specs.declared.token.Token.{Token}
use Rattle.pm_syn.specs.declared.token.TokenKind.TheVariants as kind

-- the token has the bytes of the text from its start to its end, and is the longest that is spelled there
pub record IsCutFrom (text : List ℕ) (token : Token) : Type 0 where
  pub some : token.start < token.end
  pub within : token.end ≤ length text
  pub bytes : token.text ≡ between token.start token.end text
  pub longest : IsLongestToken token.kind token.text (drop token.end text)
  pub width : HasWidth token.kind

-- the logical line has tokens, all cut from the text; the first is on the line of its number, after its column of blanks and nothing else
pub record IsLineOf (text : List ℕ) (line : Line) : Type 0 where
  pub first : Token
  pub others : List Token
  pub tokens : line.tokens ≡ first ∷ others
  pub cut : All (IsCutFrom text) line.tokens
  pub number : line.number ≡ line_after (take first.start text)
  pub column : last_line (take first.start text) ≡ replicate line.column 32

-- the logical lines are cut from the text, and they and their tokens are in the order of the text
pub record AreCutFrom (text : List ℕ) (lines : List Line) : Type 0 where
  pub each : All (IsLineOf text) lines
  pub ascend : AllPairs (λ line later. line.number < later.number) lines
  pub in_order : AllPairs (λ token later. token.end ≤ later.start) (flat_map (λ line. line.tokens) lines)

-- no name begins directly where a number ends
abbrev pub AreSeparated : List Token → Type 0
AreSeparated tokens =
    AllPairs (λ token later. (number : ℕ) → token.kind ≡ kind.Int number → later.kind ≡ kind.Name → token.end < later.start) tokens
