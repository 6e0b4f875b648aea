-- How an operation continues after its first operand, as the parser climbs over the levels.
use Rattle.std.specs.Prelude.{◌≡◌, ◌≤◌, ◌⊎◌, ◌&&◌, ◌||◌, ◌==◌, ◌++◌, Bool, if◌then◌else◌, nat_le, nat_lt, IsTrue, List, [], ◌∷◌, Option, Some, None, is_some}
use Rattle.pm_syn.specs.declared.expression.BinaryOp.{BinaryOp}
use Rattle.pm_syn.specs.declared.token.Token.{Token}
use Rattle.pm_syn.specs.declared.expression.Expr.{Expr}
use Rattle.pm_syn.specs.declared.expression.Expr.TheViews as expr
use Rattle.pm_grammar.specs.Expressions.{Spells}
use Rattle.pm_grammar.specs.Levels.{groups_left, operator_at, rank, tighter}
use Rattle.pm_grammar.specs.Reading.{Begins, Ends, operator_levels}
use Rattle.pm_grammar.specs.declared.level.Level.TheVariants as level
use Rattle.pm_grammar.specs.declared.level.Level.{Level}
use Rattle.pm_grammar.specs.declared.operator.Operator.{Operator}

-- an operator of the level `at` continues an operation of the level, after an operand of the level
-- `bound`
abbrev pub continues_by : Level → Level → Level → Bool
continues_by l bound at =
    nat_le (rank l) (rank at)
    && (nat_lt (rank at) (rank bound) || (rank at == rank bound && groups_left at))

-- the first of these levels at which a token is an operator between two operands
abbrev pub first_of : List Level → Token → Option Level
first_of [] token = None
first_of (at ∷ levels) token =
    if is_some (operator_at at token) then Some at else first_of levels token

-- the level at which a token is an operator between two operands, if it is one
abbrev pub level_of : Token → Option Level
level_of = first_of operator_levels

-- the operator comes first and continues the operation
pub record IsNextOperator (l bound : Level) (tokens : List Token) (operator : Operator)
    (tail : List Token) : Type 0 where
  pub first : Token
  pub front : tokens ≡ first ∷ tail
  pub is : operator_at operator.level first ≡ Some operator.op
  pub goes : IsTrue (continues_by l bound operator.level)

-- no operator that continues the operation comes first
abbrev pub IsNoOperator : Level → Level → List Token → Type 0
IsNoOperator l bound [] = Unit {0}
IsNoOperator l bound (first ∷ tokens) =
    (at : Level) (op : BinaryOp)
    → operator_at at first ≡ Some op
    → IsTrue (continues_by l bound at)
    → ⊥

-- the level of the first operand of an operation of this level
abbrev pub IsOperandLevel : Level → Level → Type 0
IsOperandLevel l operand = (operand ≡ level.Unary) ⊎ ((operand ≡ level.Negation) × (rank l ≤ 3))

-- these tokens continue an operand of the level `from` to the expression of the level `to`
pub data Chain : Level → Level → Expr → List Token → Expr → Type 0 where
  stay : (from to : Level) (a : Expr) → Chain from to a [] a
  go : (from to at : Level) (a c e : Expr) (ts us : List Token) (sign : Token) (op : BinaryOp)
      → IsTrue (continues_by to from at)
      → operator_at at sign ≡ Some op
      → Spells (tighter at) ts c
      → Chain at to (expr.Binary op a c) us e
      → Chain from to a (sign ∷ (ts ++ us)) e

-- each operation of the level that a prefix spells and the rest doesn't continue begins with this
-- operand and continues it
abbrev pub ContinuesFrom : Level → List Token → Option ((Expr × Level) × List Token) → Type 0
ContinuesFrom l all None =
    (e : Expr) (rest : List Token) → Begins (Spells l) all e rest → Ends l rest → ⊥
ContinuesFrom l all (Some read) =
    (e : Expr) (rest : List Token)
    → Begins (Spells l) all e rest
    → Ends l rest
    → (ts : List Token) × (read.1 ≡ ts ++ rest) × Chain read.0.1 l read.0.0 ts e
