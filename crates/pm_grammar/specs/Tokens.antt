-- Tokens as the grammar names them: symbols, words and names.
use Rattle.std.specs.Prelude.{◌&&◌, Bool, true, false, not, ℕ, IsTrue, List, codes}
use Rattle.std.specs.Str.{bytes_eq}
use Rattle.pm_syn.specs.Names.{is_keyword}
use Rattle.pm_syn.specs.declared.token.Token.{Token}
use Rattle.pm_syn.specs.declared.token.TokenKind.{TokenKind}
use Rattle.pm_syn.specs.declared.token.TokenKind.TheVariants as kind

-- the kind of operators and punctuation
abbrev pub is_op : TokenKind → Bool
is_op kind.Op = true
is_op kind.Name = false
is_op (kind.Int number) = false
is_op kind.Str = false

-- the kind of words, names and keywords alike
abbrev pub is_name_kind : TokenKind → Bool
is_name_kind kind.Name = true
is_name_kind kind.Op = false
is_name_kind (kind.Int number) = false
is_name_kind kind.Str = false

-- a symbol: the operator or punctuation of these bytes
abbrev pub is_symbol : List ℕ → Token → Bool
is_symbol bytes token = is_op token.kind && bytes_eq token.text bytes

-- the word of these bytes, a name or a keyword
abbrev pub is_word : List ℕ → Token → Bool
is_word bytes token = is_name_kind token.kind && bytes_eq token.text bytes

-- a name: a word that isn't a keyword
abbrev pub is_name : Token → Bool
is_name token = is_name_kind token.kind && not (is_keyword token.text)

-- the token is this symbol
abbrev pub IsSymbol : List ℕ → Token → Type 0
IsSymbol bytes token = IsTrue (is_symbol bytes token)

-- the token is this word
abbrev pub IsWord : List ℕ → Token → Type 0
IsWord bytes token = IsTrue (is_word bytes token)

-- the token is a name
abbrev pub IsName : Token → Type 0
IsName token = IsTrue (is_name token)

-- the token is `,`
abbrev pub IsComma : Token → Type 0
IsComma = IsSymbol (codes ",")

-- the token is `:`
abbrev pub IsColon : Token → Type 0
IsColon = IsSymbol (codes ":")

-- the token is `.`
abbrev pub IsDot : Token → Type 0
IsDot = IsSymbol (codes ".")

-- the token is `=`
abbrev pub IsEqualSign : Token → Type 0
IsEqualSign = IsSymbol (codes "=")

-- the token is `->`
abbrev pub IsArrow : Token → Type 0
IsArrow = IsSymbol (codes "->")

-- the token is `@`
abbrev pub IsAtSign : Token → Type 0
IsAtSign = IsSymbol (codes "@")

-- the token is `*`
abbrev pub IsStar : Token → Type 0
IsStar = IsSymbol (codes "*")

-- the token is `(`
abbrev pub IsOpeningParenthesis : Token → Type 0
IsOpeningParenthesis = IsSymbol (codes "(")

-- the token is `)`
abbrev pub IsClosingParenthesis : Token → Type 0
IsClosingParenthesis = IsSymbol (codes ")")

-- the token is `[`
abbrev pub IsOpeningBracket : Token → Type 0
IsOpeningBracket = IsSymbol (codes "[")

-- the token is `]`
abbrev pub IsClosingBracket : Token → Type 0
IsClosingBracket = IsSymbol (codes "]")
