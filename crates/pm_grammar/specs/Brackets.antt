-- What one token spells, and what comes after an opening bracket or a dot, part by part, as the
-- parser reads it.
use Rattle.std.specs.Prelude.{◌≡◌, ◌≤◌, ◌++◌, ◌||◌, ℕ, Bool, true, false, IsTrue, List, [], ◌∷◌, codes, length, Option, Some, None}
use Rattle.pm_syn.specs.declared.expression.Expr.{Expr}
use Rattle.pm_syn.specs.declared.expression.Expr as leaf
use Rattle.pm_syn.specs.declared.expression.Expr.TheViews as expr
use Rattle.pm_syn.specs.declared.token.Token.{Token}
use Rattle.pm_syn.specs.declared.token.TokenKind.TheVariants as kind
use Rattle.pm_grammar.specs.Expressions.{Spells, SpellsItems, SpellsRange, SpellsSequence}
use Rattle.pm_grammar.specs.Tokens.{IsClosingBracket, IsClosingParenthesis, IsColon, IsComma, IsEqualSign, IsName, IsOpeningParenthesis, IsWord, is_symbol}
use Rattle.pm_grammar.specs.Reading.{Begins, IsRead}
use Rattle.pm_grammar.specs.declared.level.Level.TheVariants as level

-- one token spells the expression
pub data SpellsLeaf (token : Token) : Expr → Type 0 where
  named : IsName token → SpellsLeaf token (leaf.Name token.text)
  number : (value : ℕ) → token.kind ≡ kind.Int value → SpellsLeaf token (leaf.Int value)
  true_word : IsWord (codes "True") token → SpellsLeaf token (leaf.Bool true)
  false_word : IsWord (codes "False") token → SpellsLeaf token (leaf.Bool false)

-- an expression and a closing parenthesis
pub data SpellsGroup : List Token → Expr → Type 0 where
  group : (ts : List Token) (closing : Token) (e : Expr)
      → Spells level.Conditional ts e
      → IsClosingParenthesis closing
      → SpellsGroup (ts ++ closing ∷ []) e

-- what comes after `for` in a list whose elements this expression makes
pub data SpellsEach (e : Expr) : List Token → Expr → Type 0 where
  each : (ts : List Token) (closing : Token) (name : List ℕ) (bounds : List Expr)
      → SpellsRange ts (name, bounds)
      → IsClosingBracket closing
      → SpellsEach e (ts ++ closing ∷ []) (expr.Each e name bounds)

-- what comes after the opening bracket of a list
pub data SpellsList : List Token → Expr → Type 0 where
  items : (ts : List Token) (closing : Token) (es : List Expr)
      → SpellsItems ts es
      → IsClosingBracket closing
      → SpellsList (ts ++ closing ∷ []) (expr.Items es)
  each : (ts us : List Token) (for_word : Token) (e list : Expr)
      → Spells level.Conditional ts e
      → IsWord (codes "for") for_word
      → SpellsEach e us list
      → SpellsList (ts ++ for_word ∷ us) list

-- what comes after the dot of an attribute
pub data SpellsAttribute (e : Expr) : List Token → Expr → Type 0 where
  attribute : (name : Token) → IsName name → SpellsAttribute e (name ∷ []) (expr.Attr e name.text)

-- what comes after the opening bracket of an index or a slice
pub data SpellsSubscript (e : Expr) : List Token → Expr → Type 0 where
  index : (ts : List Token) (closing : Token) (place : Expr)
      → Spells level.Conditional ts place
      → IsClosingBracket closing
      → SpellsSubscript e (ts ++ closing ∷ []) (expr.Index e place)
  slice : (ts us : List Token) (colon closing : Token) (low high : Expr)
      → Spells level.Conditional ts low
      → IsColon colon
      → Spells level.Conditional us high
      → IsClosingBracket closing
      → SpellsSubscript e (ts ++ colon ∷ (us ++ closing ∷ [])) (expr.Slice e low high)

-- `NAME in range(`, with this name, and what comes after it
pub record OpensRange (tokens : List Token) (name : Token) (tail : List Token) : Type 0 where
  pub in_word : Token
  pub range : Token
  pub opening : Token
  pub there : tokens ≡ name ∷ in_word ∷ range ∷ opening ∷ tail
  pub named : IsName name
  pub is_in : IsWord (codes "in") in_word
  pub is_range : IsWord (codes "range") range
  pub mark : IsOpeningParenthesis opening

-- the arguments of `range`: one to three
abbrev pub SpellsBounds : List Token → List Expr → Type 0
SpellsBounds ts bounds = SpellsSequence ts bounds × (length bounds ≤ 3)

-- commas and what follows each; a comma may come last if this says so
pub data SpellsMore {A : Type 0} (Spelled : List Token → A → Type 0) (comma_may_end : Bool)
    : List Token → List A → Type 0 where
  none : SpellsMore Spelled comma_may_end [] []
  comma : (last : Token)
      → IsTrue comma_may_end
      → IsComma last
      → SpellsMore Spelled comma_may_end (last ∷ []) []
  next : (ts us : List Token) (comma : Token) (one : A) (others : List A)
      → IsComma comma
      → Spelled ts one
      → SpellsMore Spelled comma_may_end us others
      → SpellsMore Spelled comma_may_end (comma ∷ (ts ++ us)) (one ∷ others)

-- the elements of a list, with the first one before the tokens
abbrev pub IsItemsAfter : Expr → List Token → List Expr → List Token → Type 0
IsItemsAfter first tokens es rest =
    (prefix : List Token)
    → Spells level.Conditional prefix first
    → Begins SpellsItems (prefix ++ tokens) es rest

-- each end of a closed list was read, after its first element
abbrev pub IsOnlyItems : Expr → List Token → Option (List Expr × List Token) → Type 0
IsOnlyItems first tokens read =
    (others : List Expr) (closing : Token) (rest : List Token)
    → IsClosingBracket closing
    → Begins (SpellsMore (Spells level.Conditional) true) tokens others (closing ∷ rest)
    → IsRead read (first ∷ others) (closing ∷ rest)

-- an argument or a parameter ends before this token
abbrev pub ends_argument : Token → Bool
ends_argument token = is_symbol (codes ",") token || is_symbol (codes ")") token

-- the tokens begin with the name of a parameter and `=`, and this comes after them
abbrev pub IsParameter : List Token → Token → List Token → Type 0
IsParameter tokens name tail =
    (sign : Token) × (tokens ≡ name ∷ sign ∷ tail) × IsName name × IsEqualSign sign

-- the tokens don't begin so
abbrev pub IsNoParameter : List Token → Type 0
IsNoParameter tokens = (name : Token) (tail : List Token) → IsParameter tokens name tail → ⊥

-- an argument begins with this name, if it has one, and its value comes after it
pub data OpensArgument : List Token → Option (List ℕ) → List Token → Type 0 where
  plain : (tokens : List Token) → IsNoParameter tokens → OpensArgument tokens None tokens
  named : (tokens tail : List Token) (name : Token)
      → IsParameter tokens name tail
      → OpensArgument tokens (Some name.text) tail
