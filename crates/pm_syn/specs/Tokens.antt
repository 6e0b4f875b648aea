-- Tokens: what a text may begin with, and the longest of it.
use Rattle.std.specs.Prelude.{◌≡◌, ◌≤◌, ℕ, IsTrue, List, ◌++◌, length, Some}
use Rattle.pm_syn.specs.Names.{is_spelled_as_name}
use Rattle.pm_syn.specs.Numbers.{IsLiteral}
use Rattle.pm_syn.specs.Strings.{string_length}
use Rattle.pm_syn.specs.Operators.{is_operator}
use Rattle.pm_syn.specs.declared.token.TokenKind.{TokenKind}
use Rattle.pm_syn.specs.declared.token.TokenKind.TheVariants as kind

-- the bytes spell a token of the kind, if this text follows them
abbrev pub IsToken : TokenKind → List ℕ → List ℕ → Type 0
IsToken kind.Name bytes after = IsTrue (is_spelled_as_name bytes)
IsToken (kind.Int number) bytes after = IsLiteral number bytes
IsToken kind.Str bytes after = string_length (bytes ++ after) ≡ Some (length bytes)
IsToken kind.Op bytes after = IsTrue (is_operator bytes)

-- they do, and no longer token is spelled there
pub record IsLongestToken (kind : TokenKind) (bytes after : List ℕ) : Type 0 where
  pub spelled : IsToken kind bytes after
  pub longest : (other : TokenKind) (prefix rest : List ℕ) → prefix ++ rest ≡ bytes ++ after → IsToken other prefix rest → length prefix ≤ length bytes
