-- Statements by what comes after their first expression.
use Rattle.std.specs.Prelude.{◌≡◌, List, [], ◌∷◌, ◌++◌, codes, Some, None}
use Rattle.pm_syn.specs.declared.expression.Expr.{Expr}
use Rattle.pm_syn.specs.declared.statement.AssignOp.{AssignOp}
use Rattle.pm_syn.specs.declared.statement.Stmt.{Stmt}
use Rattle.pm_syn.specs.declared.statement.Stmt as leaf
use Rattle.pm_syn.specs.declared.token.Token.{Token}
use Rattle.pm_grammar.specs.Tokens.{IsColon, IsComma, IsEqualSign, IsSymbol, IsWord}
use Rattle.pm_grammar.specs.Reading.{Begins}
use Rattle.pm_grammar.specs.Statements.{AreStrings, IsExpression, assignment_of}

-- what may come after the expression of an `assert`: nothing, or a comma and strings
abbrev pub EndsAssertion : List Token → Type 0
EndsAssertion [] = Unit {0}
EndsAssertion (comma ∷ strings) = IsComma comma × AreStrings strings

-- what comes after an expression, and the statement that both are
pub data SpellsAfter (target : Expr) : List Token → Stmt → Type 0 where
  done : SpellsAfter target [] (leaf.Do target)
  assigned : (sign : Token) (us : List Token) (op : AssignOp) (value : Expr)
      → assignment_of sign ≡ Some op
      → IsExpression us value
      → SpellsAfter target (sign ∷ us) (leaf.Assign op target value)
  joined : (sign word colon : Token) (us : List Token) (value : Expr)
      → IsSymbol (codes "//=") sign
      → IsWord (codes "lambda") word
      → IsColon colon
      → IsExpression us value
      → SpellsAfter target (sign ∷ word ∷ colon ∷ us) (leaf.JoinLambda target value)
  noted : (colon : Token) (us : List Token) (note : Expr)
      → IsColon colon
      → IsExpression us note
      → SpellsAfter target (colon ∷ us) (leaf.Note target note None)
  noted_value : (colon sign : Token) (us vs : List Token) (note value : Expr)
      → IsColon colon
      → IsExpression us note
      → IsEqualSign sign
      → IsExpression vs value
      → SpellsAfter target (colon ∷ (us ++ sign ∷ vs)) (leaf.Note target note (Some value))

-- the tokens spell an expression and what makes this statement of it
abbrev pub SpellsWithExpression : List Token → Stmt → Type 0
SpellsWithExpression tokens s =
    (target : Expr) × (rest : List Token)
    × Begins IsExpression tokens target rest
    × SpellsAfter target rest s
