-- The lexeme, the token, the literal and the operator with which a text begins, as the functions that look for them return them.
use Rattle.std.specs.Prelude.{◌≡◌, ◌<◌, ◌≤◌, ◌^◌, ◌++◌, ◌&&◌, ℕ, Bool, nat_le, List, [], ◌∷◌, length, take, drop, Option, Some, None, IsTrue}
use Rattle.std.specs.Char.{is_digit}
use Rattle.pm_syn.specs.Lexemes.{Lexeme, Stands, HasWidth}
use Rattle.pm_syn.specs.Numbers.{AreDigits, IsLiteral, value_of}
use Rattle.pm_syn.specs.Operators.{is_operator}
use Rattle.pm_syn.specs.Tokens.{IsLongestToken}
use Rattle.pm_syn.specs.declared.lexeme.Head.{Head}
use Rattle.pm_syn.specs.declared.number.Literal.{Literal}
use Rattle.pm_syn.specs.declared.token.TokenKind.{TokenKind}

-- the text begins with the lexeme
pub record IsHead (text : List ℕ) (head : Head) : Type 0 where
  pub some : 0 < head.length
  pub within : head.length ≤ length text
  pub stands : Stands head.sort (take head.length text) (drop head.length text)

-- the text begins with no lexeme
abbrev pub HasNoHead : List ℕ → Type 0
HasNoHead text = (lexeme : Lexeme) (after : List ℕ) → text ≡ lexeme.bytes ++ after → Stands lexeme.sort lexeme.bytes after → ⊥

-- the text begins with no token
abbrev pub HasNoToken : List ℕ → Type 0
HasNoToken text = (kind : TokenKind) (bytes after : List ℕ) → text ≡ bytes ++ after → IsLongestToken kind bytes after → HasWidth kind → ⊥

-- the number, if it has at most 128 bits
abbrev pub IsNumberRead : ℕ → Option ℕ → Type 0
IsNumberRead number None = 2 ^ 128 ≤ number
IsNumberRead number (Some read) = (number < 2 ^ 128) × (read ≡ number)

-- the literal is the longest with which the text begins
pub record IsLongestLiteral (text : List ℕ) (literal : Literal) : Type 0 where
  pub some : 0 < literal.length
  pub within : literal.length ≤ length text
  pub number : ℕ
  pub read : IsNumberRead number literal.number
  pub spelled : IsLiteral number (take literal.length text)
  pub longest : (other : ℕ) (prefix rest : List ℕ) → prefix ++ rest ≡ text → IsLiteral other prefix → length prefix ≤ literal.length

-- the digits are the longest with which the text begins
pub record AreLongestDigits (base : ℕ) (text : List ℕ) (literal : Literal) : Type 0 where
  pub some : 0 < literal.length
  pub within : literal.length ≤ length text
  pub read : IsNumberRead (value_of base (take literal.length text)) literal.number
  pub spelled : AreDigits base (take literal.length text)
  pub longest : (prefix rest : List ℕ) → prefix ++ rest ≡ text → AreDigits base prefix → length prefix ≤ literal.length

-- the text begins with a digit of the base
abbrev pub BeginsWithDigit : ℕ → List ℕ → Type 0
BeginsWithDigit base [] = ⊥
BeginsWithDigit base (byte ∷ text) = IsTrue (is_digit byte base)

-- the text begins with an operator of the given number of bytes
abbrev pub has_operator : ℕ → List ℕ → Bool
has_operator count text = nat_le count (length text) && is_operator (take count text)

-- the same, and with no longer one
pub record IsLongestOperator (text : List ℕ) (count : ℕ) : Type 0 where
  pub some : 0 < count
  pub within : count ≤ length text
  pub spelled : IsTrue (is_operator (take count text))
  pub longest : (prefix rest : List ℕ) → prefix ++ rest ≡ text → IsTrue (is_operator prefix) → length prefix ≤ count

-- the text begins with no operator
abbrev pub HasNoOperator : List ℕ → Type 0
HasNoOperator text = (prefix rest : List ℕ) → prefix ++ rest ≡ text → IsTrue (is_operator prefix) → ⊥
