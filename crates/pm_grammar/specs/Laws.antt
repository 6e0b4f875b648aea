-- That the grammar is unambiguous, and that each logical line has an answer.
use Rattle.std.specs.Prelude.{◌≡◌, List, Result}
use Rattle.pm_syn.specs.declared.expression.Expr.{Expr}
use Rattle.pm_syn.specs.declared.statement.Stmt.{Stmt}
use Rattle.pm_syn.specs.declared.token.Token.{Token}
use Rattle.pm_grammar.specs.Answers.{IsLineAnswer}
use Rattle.pm_grammar.specs.Expressions.{Spells}
use Rattle.pm_grammar.specs.Statements.{SpellsLine}
use Rattle.pm_grammar.specs.declared.fault.LineFault.{LineFault}
use Rattle.pm_grammar.specs.declared.level.Level.TheVariants as level

-- tokens spell at most one expression
abbrev pub TokensSpellOneExpression : Type 0
TokensSpellOneExpression =
    (tokens : List Token) (one other : Expr)
    → Spells level.Conditional tokens one
    → Spells level.Conditional tokens other
    → one ≡ other

-- tokens spell at most one statement
abbrev pub TokensSpellOneStatement : Type 0
TokensSpellOneStatement =
    (tokens : List Token) (one other : Stmt)
    → SpellsLine tokens one
    → SpellsLine tokens other
    → one ≡ other

-- the tokens of each logical line have an answer: a statement, or the fault that they spell none or
-- one that is too deep
abbrev pub EveryLineHasAnAnswer : Type 0
EveryLineHasAnAnswer = (tokens : List Token) → (answer : Result Stmt LineFault) × IsLineAnswer tokens answer
