-- The suffixes of an expression, one by one, as the parser reads them.
use Rattle.std.specs.Prelude.{◌++◌, Bool, false, List, [], ◌∷◌}
use Rattle.pm_syn.specs.declared.expression.Arg.{Arg}
use Rattle.pm_syn.specs.declared.expression.Expr.{Expr}
use Rattle.pm_syn.specs.declared.expression.Expr.TheViews as expr
use Rattle.pm_syn.specs.declared.token.Token.{Token}
use Rattle.pm_grammar.specs.Expressions.{Spells, SpellsArguments}
use Rattle.pm_grammar.specs.Tokens.{IsClosingBracket, IsClosingParenthesis, IsColon, IsDot, IsName, IsOpeningBracket, IsOpeningParenthesis}
use Rattle.pm_grammar.specs.Reading.{is_suffix}
use Rattle.pm_grammar.specs.declared.level.Level.TheVariants as level

-- the tokens begin a suffix
abbrev pub begins_suffix : List Token → Bool
begins_suffix [] = false
begins_suffix (first ∷ tokens) = is_suffix first

-- the tokens make this expression of the one before them
pub data SpellsSuffix (e : Expr) : List Token → Expr → Type 0 where
  attribute : (dot name : Token)
      → IsDot dot
      → IsName name
      → SpellsSuffix e (dot ∷ name ∷ []) (expr.Attr e name.text)
  call : (us : List Token) (opening closing : Token) (arguments : List Arg)
      → IsOpeningParenthesis opening
      → SpellsArguments us arguments
      → IsClosingParenthesis closing
      → SpellsSuffix e (opening ∷ (us ++ closing ∷ [])) (expr.Call e arguments)
  index : (us : List Token) (opening closing : Token) (place : Expr)
      → IsOpeningBracket opening
      → Spells level.Conditional us place
      → IsClosingBracket closing
      → SpellsSuffix e (opening ∷ (us ++ closing ∷ [])) (expr.Index e place)
  slice : (us vs : List Token) (opening colon closing : Token) (low high : Expr)
      → IsOpeningBracket opening
      → Spells level.Conditional us low
      → IsColon colon
      → Spells level.Conditional vs high
      → IsClosingBracket closing
      → SpellsSuffix e (opening ∷ (us ++ colon ∷ (vs ++ closing ∷ []))) (expr.Slice e low high)
