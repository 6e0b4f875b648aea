-- The grammar of expressions: which tokens spell which expression, one case for each alternative.
use Rattle.std.specs.Prelude.{◌≡◌, ◌≤◌, ℕ, true, false, IsTrue, List, [], ◌∷◌, ◌++◌, codes, length, Some, None}
use Rattle.pm_syn.specs.declared.expression.Arg.{Arg}
use Rattle.pm_syn.specs.declared.expression.BinaryOp.{BinaryOp}
use Rattle.pm_syn.specs.declared.expression.Expr.{Expr}
use Rattle.pm_syn.specs.declared.expression.Expr as leaf
use Rattle.pm_syn.specs.declared.expression.Expr.TheViews as expr
use Rattle.pm_syn.specs.declared.expression.UnaryOp.{UnaryOp}
use Rattle.pm_syn.specs.declared.expression.UnaryOp.TheVariants as unary
use Rattle.pm_syn.specs.declared.token.Token.{Token}
use Rattle.pm_syn.specs.declared.token.TokenKind.TheVariants as kind
use Rattle.pm_grammar.specs.Levels.{groups_left, operator_at, sign_of, tighter}
use Rattle.pm_grammar.specs.Tokens.{IsClosingBracket, IsClosingParenthesis, IsColon, IsComma, IsDot, IsEqualSign, IsName, IsOpeningBracket, IsOpeningParenthesis, IsWord}
use Rattle.pm_grammar.specs.declared.level.Level.{Level}
use Rattle.pm_grammar.specs.declared.level.Level.TheVariants as level

mutual
  -- the tokens spell the expression, which binds as tightly as the level says
  pub data Spells : Level → List Token → Expr → Type 0 where
    as_tight : (l : Level) (ts : List Token) (e : Expr) → Spells (tighter l) ts e → Spells l ts e
    conditional : (ts us vs : List Token) (if_word else_word : Token) (value condition other : Expr)
        → Spells level.Disjunction ts value
        → IsWord (codes "if") if_word
        → Spells level.Disjunction us condition
        → IsWord (codes "else") else_word
        → Spells level.Conditional vs other
        → Spells level.Conditional (ts ++ if_word ∷ (us ++ else_word ∷ vs))
        (expr.Cond value condition other)
    grouped_left : (l : Level) (ts us : List Token) (sign : Token) (op : BinaryOp)
        (left right : Expr)
        → IsTrue (groups_left l)
        → Spells l ts left
        → operator_at l sign ≡ Some op
        → Spells (tighter l) us right
        → Spells l (ts ++ sign ∷ us) (expr.Binary op left right)
    negation : (ts : List Token) (not_word : Token) (e : Expr)
        → IsWord (codes "not") not_word
        → Spells level.Negation ts e
        → Spells level.Negation (not_word ∷ ts) (expr.Unary unary.Not e)
    comparison : (ts us : List Token) (sign : Token) (op : BinaryOp) (left right : Expr)
        → Spells level.BitOr ts left
        → operator_at level.Comparison sign ≡ Some op
        → Spells level.BitOr us right
        → Spells level.Comparison (ts ++ sign ∷ us) (expr.Binary op left right)
    signed : (ts : List Token) (sign : Token) (op : UnaryOp) (e : Expr)
        → sign_of sign ≡ Some op
        → Spells level.Unary ts e
        → Spells level.Unary (sign ∷ ts) (expr.Unary op e)
    power : (ts us : List Token) (sign : Token) (op : BinaryOp) (base exponent : Expr)
        → Spells level.Postfix ts base
        → operator_at level.Power sign ≡ Some op
        → Spells level.Unary us exponent
        → Spells level.Power (ts ++ sign ∷ us) (expr.Binary op base exponent)
    attribute : (ts : List Token) (dot name : Token) (e : Expr)
        → Spells level.Postfix ts e
        → IsDot dot
        → IsName name
        → Spells level.Postfix (ts ++ dot ∷ name ∷ []) (expr.Attr e name.text)
    call : (ts us : List Token) (opening closing : Token) (e : Expr) (arguments : List Arg)
        → Spells level.Postfix ts e
        → IsOpeningParenthesis opening
        → SpellsArguments us arguments
        → IsClosingParenthesis closing
        → Spells level.Postfix (ts ++ opening ∷ (us ++ closing ∷ [])) (expr.Call e arguments)
    index : (ts us : List Token) (opening closing : Token) (e place : Expr)
        → Spells level.Postfix ts e
        → IsOpeningBracket opening
        → Spells level.Conditional us place
        → IsClosingBracket closing
        → Spells level.Postfix (ts ++ opening ∷ (us ++ closing ∷ [])) (expr.Index e place)
    slice : (ts us vs : List Token) (opening colon closing : Token) (e low high : Expr)
        → Spells level.Postfix ts e
        → IsOpeningBracket opening
        → Spells level.Conditional us low
        → IsColon colon
        → Spells level.Conditional vs high
        → IsClosingBracket closing
        → Spells level.Postfix (ts ++ opening ∷ (us ++ colon ∷ (vs ++ closing ∷ [])))
        (expr.Slice e low high)
    named : (name : Token) → IsName name → Spells level.Atom (name ∷ []) (leaf.Name name.text)
    number : (literal : Token) (value : ℕ)
        → literal.kind ≡ kind.Int value
        → Spells level.Atom (literal ∷ []) (leaf.Int value)
    true_word : (word : Token)
        → IsWord (codes "True") word
        → Spells level.Atom (word ∷ []) (leaf.Bool true)
    false_word : (word : Token)
        → IsWord (codes "False") word
        → Spells level.Atom (word ∷ []) (leaf.Bool false)
    group : (ts : List Token) (opening closing : Token) (e : Expr)
        → IsOpeningParenthesis opening
        → Spells level.Conditional ts e
        → IsClosingParenthesis closing
        → Spells level.Atom (opening ∷ (ts ++ closing ∷ [])) e
    items : (ts : List Token) (opening closing : Token) (es : List Expr)
        → IsOpeningBracket opening
        → SpellsItems ts es
        → IsClosingBracket closing
        → Spells level.Atom (opening ∷ (ts ++ closing ∷ [])) (expr.Items es)
    each : (ts us : List Token) (opening for_word closing : Token) (e : Expr) (name : List ℕ)
        (bounds : List Expr)
        → IsOpeningBracket opening
        → Spells level.Conditional ts e
        → IsWord (codes "for") for_word
        → SpellsRange us (name, bounds)
        → IsClosingBracket closing
        → Spells level.Atom (opening ∷ (ts ++ for_word ∷ (us ++ closing ∷ [])))
        (expr.Each e name bounds)

  -- expressions with commas between them, at least one
  pub data SpellsSequence : List Token → List Expr → Type 0 where
    one : (ts : List Token) (e : Expr) → Spells level.Conditional ts e → SpellsSequence ts (e ∷ [])
    more : (ts us : List Token) (comma : Token) (es : List Expr) (e : Expr)
        → SpellsSequence ts es
        → IsComma comma
        → Spells level.Conditional us e
        → SpellsSequence (ts ++ comma ∷ us) (es ++ e ∷ [])

  -- the elements of a list; a comma may follow the last
  pub data SpellsItems : List Token → List Expr → Type 0 where
    no_items : SpellsItems [] []
    some_items : (ts : List Token) (es : List Expr) → SpellsSequence ts es → SpellsItems ts es
    items_comma : (ts : List Token) (comma : Token) (es : List Expr)
        → SpellsSequence ts es
        → IsComma comma
        → SpellsItems (ts ++ comma ∷ []) es

  -- `NAME in range( .. )`: the name, and the arguments of `range`, one to three
  pub data SpellsRange : List Token → List ℕ × List Expr → Type 0 where
    ranged : (ts : List Token) (name in_word range opening closing : Token) (bounds : List Expr)
        → IsName name
        → IsWord (codes "in") in_word
        → IsWord (codes "range") range
        → IsOpeningParenthesis opening
        → SpellsSequence ts bounds
        → length bounds ≤ 3
        → IsClosingParenthesis closing
        → SpellsRange (name ∷ in_word ∷ range ∷ opening ∷ (ts ++ closing ∷ [])) (name.text, bounds)

  -- an argument of a call, with the name of its parameter or without
  pub data SpellsArgument : List Token → Arg → Type 0 where
    plain : (ts : List Token) (e : Expr)
        → Spells level.Conditional ts e
        → SpellsArgument ts (record { name = None; value = e })
    by_name : (ts : List Token) (name sign : Token) (e : Expr)
        → IsName name
        → IsEqualSign sign
        → Spells level.Conditional ts e
        → SpellsArgument (name ∷ sign ∷ ts) (record { name = Some name.text; value = e })

  -- arguments with commas between them, at least one
  pub data SpellsArgumentSequence : List Token → List Arg → Type 0 where
    one_argument : (ts : List Token) (a : Arg)
        → SpellsArgument ts a
        → SpellsArgumentSequence ts (a ∷ [])
    more_arguments : (ts us : List Token) (comma : Token) (arguments : List Arg) (a : Arg)
        → SpellsArgumentSequence ts arguments
        → IsComma comma
        → SpellsArgument us a
        → SpellsArgumentSequence (ts ++ comma ∷ us) (arguments ++ a ∷ [])

  -- the arguments of a call; a comma may follow the last
  pub data SpellsArguments : List Token → List Arg → Type 0 where
    no_arguments : SpellsArguments [] []
    some_arguments : (ts : List Token) (arguments : List Arg)
        → SpellsArgumentSequence ts arguments
        → SpellsArguments ts arguments
    arguments_comma : (ts : List Token) (comma : Token) (arguments : List Arg)
        → SpellsArgumentSequence ts arguments
        → IsComma comma
        → SpellsArguments (ts ++ comma ∷ []) arguments
