-- The grammar of a logical line: which tokens spell which statement, one case for each alternative.
use Rattle.std.specs.Prelude.{◌≡◌, ℕ, Bool, true, false, All, List, [], ◌∷◌, ◌++◌, codes, if◌then◌else◌, Option, Some, None}
use Rattle.pm_syn.specs.declared.expression.Expr.{Expr}
use Rattle.pm_syn.specs.declared.statement.AssignOp.{AssignOp}
use Rattle.pm_syn.specs.declared.statement.AssignOp.TheVariants as assign
use Rattle.pm_syn.specs.declared.statement.Par.{Par}
use Rattle.pm_syn.specs.declared.statement.Stmt.{Stmt}
use Rattle.pm_syn.specs.declared.statement.Stmt as leaf
use Rattle.pm_syn.specs.declared.statement.Stmt.TheViews as stmt
use Rattle.pm_syn.specs.declared.token.Token.{Token}
use Rattle.pm_syn.specs.declared.token.TokenKind.TheVariants as kind
use Rattle.pm_grammar.specs.Expressions.{Spells, SpellsRange}
use Rattle.pm_grammar.specs.Tokens.{IsArrow, IsAtSign, IsClosingParenthesis, IsColon, IsComma, IsEqualSign, IsName, IsOpeningParenthesis, IsStar, IsSymbol, IsWord, is_symbol}
use Rattle.pm_grammar.specs.declared.level.Level.TheVariants as level

-- the tokens spell an expression
abbrev pub IsExpression : List Token → Expr → Type 0
IsExpression = Spells level.Conditional

-- one or more strings
abbrev pub AreStrings : List Token → Type 0
AreStrings [] = ⊥
AreStrings (first ∷ others) = (first.kind ≡ kind.Str) × All (λ token. token.kind ≡ kind.Str) others

-- the assignment that a token is, if it is one
abbrev pub assignment_of : Token → Option AssignOp
assignment_of token =
    if is_symbol (codes "=") token then Some assign.Plain
    else if is_symbol (codes "@=") token then Some assign.Now
    else if is_symbol (codes "<<=") token then Some assign.Next
    else if is_symbol (codes "//=") token then Some assign.Join
    else None

-- a statement that may follow a header on its line
pub data SpellsSimple : List Token → Stmt → Type 0 where
  passed : (word : Token) → IsWord (codes "pass") word → SpellsSimple (word ∷ []) leaf.Pass
  returned : (word : Token) (ts : List Token) (e : Expr)
      → IsWord (codes "return") word
      → IsExpression ts e
      → SpellsSimple (word ∷ ts) (leaf.Return e)
  asserted : (word : Token) (ts : List Token) (e : Expr)
      → IsWord (codes "assert") word
      → IsExpression ts e
      → SpellsSimple (word ∷ ts) (leaf.Assert e)
  asserted_saying : (word comma : Token) (ts strings : List Token) (e : Expr)
      → IsWord (codes "assert") word
      → IsExpression ts e
      → IsComma comma
      → AreStrings strings
      → SpellsSimple (word ∷ (ts ++ comma ∷ strings)) (leaf.Assert e)
  doc : (strings : List Token) → AreStrings strings → SpellsSimple strings leaf.Doc
  assigned : (sign : Token) (ts us : List Token) (op : AssignOp) (target value : Expr)
      → IsExpression ts target
      → assignment_of sign ≡ Some op
      → IsExpression us value
      → SpellsSimple (ts ++ sign ∷ us) (leaf.Assign op target value)
  joined : (sign word colon : Token) (ts us : List Token) (target value : Expr)
      → IsExpression ts target
      → IsSymbol (codes "//=") sign
      → IsWord (codes "lambda") word
      → IsColon colon
      → IsExpression us value
      → SpellsSimple (ts ++ sign ∷ word ∷ colon ∷ us) (leaf.JoinLambda target value)
  noted : (colon : Token) (ts us : List Token) (target note : Expr)
      → IsExpression ts target
      → IsColon colon
      → IsExpression us note
      → SpellsSimple (ts ++ colon ∷ us) (leaf.Note target note None)
  noted_value : (colon sign : Token) (ts us vs : List Token) (target note value : Expr)
      → IsExpression ts target
      → IsColon colon
      → IsExpression us note
      → IsEqualSign sign
      → IsExpression vs value
      → SpellsSimple (ts ++ colon ∷ (us ++ sign ∷ vs)) (leaf.Note target note (Some value))
  done : (ts : List Token) (e : Expr) → IsExpression ts e → SpellsSimple ts (leaf.Do e)

-- the end of a header: a colon, and a simple statement or none
pub data SpellsEnd : List Token → Option Stmt → Type 0 where
  alone : (colon : Token) → IsColon colon → SpellsEnd (colon ∷ []) None
  with_statement : (colon : Token) (ts : List Token) (s : Stmt)
      → IsColon colon
      → SpellsSimple ts s
      → SpellsEnd (colon ∷ ts) (Some s)

-- names with commas between them, at least one
pub data SpellsNames : List Token → Type 0 where
  one_name : (name : Token) → IsName name → SpellsNames (name ∷ [])
  more_names : (ts : List Token) (comma name : Token)
      → SpellsNames ts
      → IsComma comma
      → IsName name
      → SpellsNames (ts ++ comma ∷ name ∷ [])

-- a symbol and an expression, or nothing
pub data SpellsOptional (symbol : List ℕ) : List Token → Option Expr → Type 0 where
  absent : SpellsOptional symbol [] None
  present : (sign : Token) (ts : List Token) (e : Expr)
      → IsSymbol symbol sign
      → IsExpression ts e
      → SpellsOptional symbol (sign ∷ ts) (Some e)

-- a parameter, with its annotation and its default
pub data SpellsParameter : List Token → Par → Type 0 where
  parameter : (name : Token) (ts us : List Token) (note default : Option Expr)
      → IsName name
      → SpellsOptional (codes ":") ts note
      → SpellsOptional (codes "=") us default
      → SpellsParameter (name ∷ (ts ++ us))
      (record { name = name.text; note = note; default = default })

-- `s` and parameters with commas between them
pub data SpellsParameters : List Token → List Par → Type 0 where
  itself : (word : Token) → IsWord (codes "s") word → SpellsParameters (word ∷ []) []
  and_parameter : (comma : Token) (ts us : List Token) (parameters : List Par) (p : Par)
      → SpellsParameters ts parameters
      → IsComma comma
      → SpellsParameter us p
      → SpellsParameters (ts ++ comma ∷ us) (parameters ++ p ∷ [])

-- what comes between the parentheses of a function; a comma may follow the last parameter
pub data SpellsSignature : List Token → Bool → List Par → Type 0 where
  without_parameters : SpellsSignature [] false []
  with_parameters : (ts : List Token) (parameters : List Par)
      → SpellsParameters ts parameters
      → SpellsSignature ts true parameters
  parameters_comma : (comma : Token) (ts : List Token) (parameters : List Par)
      → SpellsParameters ts parameters
      → IsComma comma
      → SpellsSignature (ts ++ comma ∷ []) true parameters

-- the annotation of a function's result: none, `-> None`, or an expression
pub data SpellsResult : List Token → Option Expr → Type 0 where
  unsaid : SpellsResult [] None
  nothing : (arrow word : Token)
      → IsArrow arrow
      → IsWord (codes "None") word
      → SpellsResult (arrow ∷ word ∷ []) None
  something : (arrow : Token) (ts : List Token) (e : Expr)
      → IsArrow arrow
      → IsExpression ts e
      → SpellsResult (arrow ∷ ts) (Some e)

-- the tokens of a logical line spell the statement
pub data SpellsLine : List Token → Stmt → Type 0 where
  import_all : (from_word library import_word star : Token)
      → IsWord (codes "from") from_word
      → IsWord (codes "pymtl3") library
      → IsWord (codes "import") import_word
      → IsStar star
      → SpellsLine (from_word ∷ library ∷ import_word ∷ star ∷ []) leaf.Import
  import_names : (from_word library import_word : Token) (names : List Token)
      → IsWord (codes "from") from_word
      → IsWord (codes "pymtl3") library
      → IsWord (codes "import") import_word
      → SpellsNames names
      → SpellsLine (from_word ∷ library ∷ import_word ∷ names) leaf.Import
  import_deque : (from_word library import_word deque : Token)
      → IsWord (codes "from") from_word
      → IsWord (codes "collections") library
      → IsWord (codes "import") import_word
      → IsWord (codes "deque") deque
      → SpellsLine (from_word ∷ library ∷ import_word ∷ deque ∷ []) leaf.Import
  class_alone : (word name colon : Token)
      → IsWord (codes "class") word
      → IsName name
      → IsColon colon
      → SpellsLine (word ∷ name ∷ colon ∷ []) (leaf.Class name.text None)
  class_of : (word name opening base closing colon : Token)
      → IsWord (codes "class") word
      → IsName name
      → IsOpeningParenthesis opening
      → IsName base
      → IsClosingParenthesis closing
      → IsColon colon
      → SpellsLine (word ∷ name ∷ opening ∷ base ∷ closing ∷ colon ∷ [])
      (leaf.Class name.text (Some base.text))
  defined : (word name opening closing : Token) (ts us vs : List Token) (has_self : Bool)
      (parameters : List Par) (result : Option Expr) (body : Option Stmt)
      → IsWord (codes "def") word
      → IsName name
      → IsOpeningParenthesis opening
      → SpellsSignature ts has_self parameters
      → IsClosingParenthesis closing
      → SpellsResult us result
      → SpellsEnd vs body
      → SpellsLine (word ∷ name ∷ opening ∷ (ts ++ closing ∷ (us ++ vs)))
      (stmt.Def name.text has_self parameters result body)
  marked : (at_sign name : Token)
      → IsAtSign at_sign
      → IsName name
      → SpellsLine (at_sign ∷ name ∷ []) (leaf.Mark name.text)
  guarded : (at_sign word opening lambda self colon closing : Token) (ts : List Token) (e : Expr)
      → IsAtSign at_sign
      → IsWord (codes "non_blocking") word
      → IsOpeningParenthesis opening
      → IsWord (codes "lambda") lambda
      → IsWord (codes "s") self
      → IsColon colon
      → IsExpression ts e
      → IsClosingParenthesis closing
      → SpellsLine (at_sign ∷ word ∷ opening ∷ lambda ∷ self ∷ colon ∷ (ts ++ closing ∷ []))
      (leaf.NonBlocking e)
  if_line : (word : Token) (ts us : List Token) (condition : Expr) (body : Option Stmt)
      → IsWord (codes "if") word
      → IsExpression ts condition
      → SpellsEnd us body
      → SpellsLine (word ∷ (ts ++ us)) (stmt.If condition body)
  elif_line : (word : Token) (ts us : List Token) (condition : Expr) (body : Option Stmt)
      → IsWord (codes "elif") word
      → IsExpression ts condition
      → SpellsEnd us body
      → SpellsLine (word ∷ (ts ++ us)) (stmt.Elif condition body)
  else_line : (word : Token) (ts : List Token) (body : Option Stmt)
      → IsWord (codes "else") word
      → SpellsEnd ts body
      → SpellsLine (word ∷ ts) (stmt.Else body)
  for_line : (word : Token) (ts us : List Token) (name : List ℕ) (bounds : List Expr)
      (body : Option Stmt)
      → IsWord (codes "for") word
      → SpellsRange ts (name, bounds)
      → SpellsEnd us body
      → SpellsLine (word ∷ (ts ++ us)) (stmt.For name bounds body)
  simple : (ts : List Token) (s : Stmt) → SpellsSimple ts s → SpellsLine ts s
