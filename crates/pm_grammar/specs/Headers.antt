-- The parts of a header, as the parser reads them.
use Rattle.std.specs.Prelude.{◌≡◌, ℕ, Bool, false, List, [], ◌∷◌, codes, Option, Some, None}
use Rattle.pm_syn.specs.declared.expression.Expr.{Expr}
use Rattle.pm_syn.specs.declared.statement.Par.{Par}
use Rattle.pm_syn.specs.declared.statement.Stmt.{Stmt}
use Rattle.pm_syn.specs.declared.statement.Stmt as leaf
use Rattle.pm_syn.specs.declared.statement.Stmt.TheViews as stmt
use Rattle.pm_syn.specs.declared.token.Token.{Token}
use Rattle.pm_grammar.specs.Expressions.{SpellsRange}
use Rattle.pm_grammar.specs.Tokens.{IsClosingParenthesis, IsColon, IsName, IsOpeningParenthesis, IsStar, IsWord, is_symbol}
use Rattle.pm_grammar.specs.Prefixes.{IsNotFirst}
use Rattle.pm_grammar.specs.Reading.{Begins, Ends, IsRead}
use Rattle.pm_grammar.specs.Statements.{IsExpression, SpellsEnd, SpellsNames, SpellsOptional, SpellsResult, SpellsSignature, SpellsSimple}
use Rattle.pm_grammar.specs.declared.level.Level.TheVariants as level

-- the symbol is the only token
abbrev pub is_lone : List ℕ → List Token → Bool
is_lone symbol [] = false
is_lone symbol (token ∷ []) = is_symbol symbol token
is_lone symbol (token ∷ next ∷ rest) = false

-- `collections import deque`
pub data SpellsDequeImport : List Token → Type 0 where
  deque_import : (library import_word deque : Token)
      → IsWord (codes "collections") library
      → IsWord (codes "import") import_word
      → IsWord (codes "deque") deque
      → SpellsDequeImport (library ∷ import_word ∷ deque ∷ [])

-- what comes after `from`
pub data SpellsImport : List Token → Type 0 where
  all_names : (library import_word star : Token)
      → IsWord (codes "pymtl3") library
      → IsWord (codes "import") import_word
      → IsStar star
      → SpellsImport (library ∷ import_word ∷ star ∷ [])
  some_names : (library import_word : Token) (names : List Token)
      → IsWord (codes "pymtl3") library
      → IsWord (codes "import") import_word
      → SpellsNames names
      → SpellsImport (library ∷ import_word ∷ names)
  deque : (ts : List Token) → SpellsDequeImport ts → SpellsImport ts

-- the import that comes after `from`
abbrev pub IsImport : List Token → Stmt → Type 0
IsImport tokens s = SpellsImport tokens × (s ≡ leaf.Import)

-- the base of a class in parentheses, and a colon
pub data SpellsBase : List Token → Token → Type 0 where
  based : (opening base closing colon : Token)
      → IsOpeningParenthesis opening
      → IsName base
      → IsClosingParenthesis closing
      → IsColon colon
      → SpellsBase (opening ∷ base ∷ closing ∷ colon ∷ []) base

-- what comes after `class`
pub data SpellsClass : List Token → Stmt → Type 0 where
  without_base : (name colon : Token)
      → IsName name
      → IsColon colon
      → SpellsClass (name ∷ colon ∷ []) (leaf.Class name.text None)
  with_base : (name base : Token) (ts : List Token)
      → IsName name
      → SpellsBase ts base
      → SpellsClass (name ∷ ts) (leaf.Class name.text (Some base.text))

-- `( lambda s:`, and what comes after it
pub data OpensGuard : List Token → List Token → Type 0 where
  opened : (opening lambda self colon : Token) (rest : List Token)
      → IsOpeningParenthesis opening
      → IsWord (codes "lambda") lambda
      → IsWord (codes "s") self
      → IsColon colon
      → OpensGuard (opening ∷ lambda ∷ self ∷ colon ∷ rest) rest

-- an expression and a closing parenthesis
abbrev pub IsGuard : List Token → Expr → Type 0
IsGuard tokens e =
    (closing : Token) × IsClosingParenthesis closing
    × Begins IsExpression tokens e (closing ∷ [])

-- what comes after `@`
pub data SpellsDecorator : List Token → Stmt → Type 0 where
  mark : (name : Token) → IsName name → SpellsDecorator (name ∷ []) (leaf.Mark name.text)
  guard : (word : Token) (ts us : List Token) (e : Expr)
      → IsWord (codes "non_blocking") word
      → OpensGuard ts us
      → IsGuard us e
      → SpellsDecorator (word ∷ ts) (leaf.NonBlocking e)

-- a condition and the end of its header
abbrev pub IsCondition : List Token → Expr → Option Stmt → Type 0
IsCondition tokens condition body =
    (rest : List Token) × Begins IsExpression tokens condition rest × SpellsEnd rest body

-- a header of `if`, `elif` or `else`, or a simple statement
pub data SpellsBranch : List Token → Stmt → Type 0 where
  if_branch : (word : Token) (ts : List Token) (condition : Expr) (body : Option Stmt)
      → IsWord (codes "if") word
      → IsCondition ts condition body
      → SpellsBranch (word ∷ ts) (stmt.If condition body)
  elif_branch : (word : Token) (ts : List Token) (condition : Expr) (body : Option Stmt)
      → IsWord (codes "elif") word
      → IsCondition ts condition body
      → SpellsBranch (word ∷ ts) (stmt.Elif condition body)
  else_branch : (word : Token) (ts : List Token) (body : Option Stmt)
      → IsWord (codes "else") word
      → SpellsEnd ts body
      → SpellsBranch (word ∷ ts) (stmt.Else body)
  simple_branch : (ts : List Token) (s : Stmt) → SpellsSimple ts s → SpellsBranch ts s

-- what comes after `for`
pub data SpellsFor : List Token → Stmt → Type 0 where
  for_range : (ts rest : List Token) (name : List ℕ) (bounds : List Expr) (body : Option Stmt)
      → Begins SpellsRange ts (name, bounds) rest
      → SpellsEnd rest body
      → SpellsFor ts (stmt.For name bounds body)

-- what comes between the parentheses of a function
abbrev pub IsSignature : List Token → Bool × List Par → Type 0
IsSignature tokens signature = SpellsSignature tokens signature.0 signature.1

-- the end of a function's header, from the closing parenthesis
pub data SpellsFunctionEnd : List Token → Option Expr → Option Stmt → Type 0 where
  function_end : (closing : Token) (ts rest : List Token) (result : Option Expr)
      (body : Option Stmt)
      → IsClosingParenthesis closing
      → Begins SpellsResult ts result rest
      → SpellsEnd rest body
      → SpellsFunctionEnd (closing ∷ ts) result body

-- what comes after `def`
pub data SpellsDefinition : List Token → Stmt → Type 0 where
  definition : (name opening : Token) (ts rest : List Token) (has_self : Bool)
      (parameters : List Par) (result : Option Expr) (body : Option Stmt)
      → IsName name
      → IsOpeningParenthesis opening
      → Begins IsSignature ts (has_self, parameters) rest
      → SpellsFunctionEnd rest result body
      → SpellsDefinition (name ∷ opening ∷ ts) (stmt.Def name.text has_self parameters result body)

-- each optional expression with which the tokens begin, and which doesn't go on after it, was read
abbrev pub IsOnlyOptional : List ℕ → List Token → Option (Option Expr × List Token) → Type 0
IsOnlyOptional symbol tokens read =
    (one : Option Expr) (rest : List Token)
    → Begins (SpellsOptional symbol) tokens one rest
    → IsNotFirst (is_symbol symbol) rest
    → Ends level.Conditional rest
    → IsRead read one rest
