-- What is read from a prefix of tokens, and that nothing else could be.
use Rattle.std.specs.Prelude.{◌≡◌, ◌&&◌, ◌||◌, ◌==◌, nat_le, Bool, false, List, [], ◌∷◌, ◌++◌, codes, Option, Some, None, is_some, IsTrue, ℕ}
use Rattle.pm_syn.specs.declared.expression.Expr.{Expr}
use Rattle.pm_syn.specs.declared.token.Token.{Token}
use Rattle.pm_grammar.specs.Expressions.{Spells}
use Rattle.pm_grammar.specs.Levels.{operator_at, rank}
use Rattle.pm_grammar.specs.Tokens.{is_symbol, is_word}
use Rattle.pm_grammar.specs.declared.level.Level.{Level}
use Rattle.pm_grammar.specs.declared.level.Level.TheVariants as level

-- a prefix of the tokens spells this, and the rest comes after it
abbrev pub Begins : {A : Type 0} → (List Token → A → Type 0) → List Token → A → List Token → Type 0
Begins Spelled all one rest = (prefix : List Token) × (all ≡ prefix ++ rest) × Spelled prefix one

-- the token begins an attribute, a call, an index or a slice
abbrev pub is_suffix : Token → Bool
is_suffix token =
    (is_symbol (codes ".") token || is_symbol (codes "(") token) || is_symbol (codes "[") token

-- the levels whose operators come between two operands, from the loosest to the tightest
abbrev pub operator_levels : List Level
operator_levels =
    level.Disjunction ∷ level.Conjunction ∷ level.Comparison ∷ level.BitOr ∷ level.BitXor
    ∷ level.BitAnd ∷ level.Shift ∷ level.Sum ∷ level.Product ∷ level.Power ∷ []

-- the token continues an expression of the level: it is an operator of one of these levels that
-- is as tight or tighter, or the start of a suffix, which continues all but an atom
abbrev pub continues_at : Level → List Level → Token → Bool
continues_at l [] token = nat_le (rank l) (rank level.Postfix) && is_suffix token
continues_at l (at ∷ levels) token =
    (nat_le (rank l) (rank at) && is_some (operator_at at token)) || continues_at l levels token

-- the token continues an expression of the level; `if` continues only the loosest
abbrev pub continues : Level → Token → Bool
continues l token =
    (rank l == rank level.Conditional && is_word (codes "if") token)
    || continues_at l operator_levels token

-- the tokens don't continue an expression of the level
abbrev pub Ends : Level → List Token → Type 0
Ends l [] = Unit {0}
Ends l (token ∷ rest) = continues l token ≡ false

-- this was read, with this rest
abbrev pub IsRead : {A : Type 0} → Option (A × List Token) → A → List Token → Type 0
IsRead None one rest = ⊥
IsRead (Some read) one rest = (one ≡ read.0) × (rest ≡ read.1)

-- each expression of the level that a prefix spells and the rest doesn't continue was read
abbrev pub IsOnly : Level → List Token → Option (Expr × List Token) → Type 0
IsOnly l all read =
    (e : Expr) (rest : List Token) → Begins (Spells l) all e rest → Ends l rest → IsRead read e rest

-- each prefix that is followed by a token that passes the test was read
abbrev pub IsOnlyUpTo : {A : Type 0}
    → (List Token → A → Type 0)
    → (Token → Bool)
    → List Token
    → Option (A × List Token)
    → Type 0
IsOnlyUpTo {A} Spelled test all read =
    (one : A) (next : Token) (rest : List Token)
    → IsTrue (test next)
    → Begins Spelled all one (next ∷ rest)
    → IsRead read one (next ∷ rest)

-- each prefix that is followed by this symbol was read
abbrev pub IsOnlyBefore : {A : Type 0}
    → (List Token → A → Type 0)
    → List ℕ
    → List Token
    → Option (A × List Token)
    → Type 0
IsOnlyBefore Spelled symbol = IsOnlyUpTo Spelled (is_symbol symbol)

-- each prefix that spells something was read
abbrev pub IsOnlyBeginning : {A : Type 0}
    → (List Token → A → Type 0)
    → List Token
    → Option (A × List Token)
    → Type 0
IsOnlyBeginning {A} Spelled all read =
    (one : A) (rest : List Token) → Begins Spelled all one rest → IsRead read one rest
