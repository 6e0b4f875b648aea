-- The lexemes of a text: its tokens, its line ends, and the gaps between them.
use Rattle.std.specs.Prelude.{◌≡◌, ◌⊎◌, ◌<◌, ◌^◌, ℕ, List, [], ◌∷◌}
use Rattle.pm_io.specs.Lines.{HasNoLineEnd}
use Rattle.pm_syn.specs.Bytes.{IsLineEnd, IsAtLineEnd}
use Rattle.pm_syn.specs.Tokens.{IsLongestToken}
use Rattle.pm_syn.specs.declared.lexeme.Sort.{Sort}
use Rattle.pm_syn.specs.declared.lexeme.Sort.TheVariants as sort
use Rattle.pm_syn.specs.declared.token.TokenKind.{TokenKind}
use Rattle.pm_syn.specs.declared.token.TokenKind.TheVariants as kind

-- a lexeme as it is written
pub record Lexeme : Type 0 where
  pub sort : Sort
  pub bytes : List ℕ

-- `#` and what follows it on its line
pub record IsComment (bytes after : List ℕ) : Type 0 where
  pub text : List ℕ
  pub spelled : bytes ≡ 35 ∷ text
  pub on_one_line : HasNoLineEnd text
  pub to_its_end : IsAtLineEnd after

-- a backslash and the line end directly after it
pub record IsJoining (bytes : List ℕ) : Type 0 where
  pub line_end : List ℕ
  pub spelled : bytes ≡ 92 ∷ line_end
  pub ends : IsLineEnd line_end

-- a blank, a tab, a comment, or a line end that a backslash joins
abbrev pub IsGap : List ℕ → List ℕ → Type 0
IsGap bytes after = (bytes ≡ 32 ∷ []) ⊎ (bytes ≡ 9 ∷ []) ⊎ IsComment bytes after ⊎ IsJoining bytes

-- the number of a token has at most 128 bits
abbrev pub HasWidth : TokenKind → Type 0
HasWidth (kind.Int number) = number < 2 ^ 128
HasWidth kind.Name = Unit {0}
HasWidth kind.Str = Unit {0}
HasWidth kind.Op = Unit {0}

-- the bytes are a lexeme of the sort, where this text follows them
abbrev pub Stands : Sort → List ℕ → List ℕ → Type 0
Stands sort.Gap bytes after = IsGap bytes after
Stands sort.LineEnd bytes after = IsLineEnd bytes
Stands (sort.Token kind) bytes after = IsLongestToken kind bytes after × HasWidth kind
