-- How tightly operators bind: the levels of expressions, from the loosest to the tightest.
use Rattle.std.specs.Prelude.{Bool, true, false, if◌then◌else◌, ℕ, codes, Option, Some, None}
use Rattle.pm_syn.specs.declared.expression.BinaryOp.{BinaryOp}
use Rattle.pm_syn.specs.declared.expression.BinaryOp.TheVariants as binary
use Rattle.pm_syn.specs.declared.expression.UnaryOp.{UnaryOp}
use Rattle.pm_syn.specs.declared.expression.UnaryOp.TheVariants as unary
use Rattle.pm_syn.specs.declared.token.Token.{Token}
use Rattle.pm_grammar.specs.Tokens.{is_symbol, is_word}
use Rattle.pm_grammar.specs.declared.level.Level.{Level}
use Rattle.pm_grammar.specs.declared.level.Level.TheVariants as level

-- the next tighter level; nothing is tighter than an atom, whose next level is its own
abbrev pub tighter : Level → Level
tighter level.Conditional = level.Disjunction
tighter level.Disjunction = level.Conjunction
tighter level.Conjunction = level.Negation
tighter level.Negation = level.Comparison
tighter level.Comparison = level.BitOr
tighter level.BitOr = level.BitXor
tighter level.BitXor = level.BitAnd
tighter level.BitAnd = level.Shift
tighter level.Shift = level.Sum
tighter level.Sum = level.Product
tighter level.Product = level.Unary
tighter level.Unary = level.Power
tighter level.Power = level.Postfix
tighter level.Postfix = level.Atom
tighter level.Atom = level.Atom

-- how many levels are looser
abbrev pub rank : Level → ℕ
rank level.Conditional = 0
rank level.Disjunction = 1
rank level.Conjunction = 2
rank level.Negation = 3
rank level.Comparison = 4
rank level.BitOr = 5
rank level.BitXor = 6
rank level.BitAnd = 7
rank level.Shift = 8
rank level.Sum = 9
rank level.Product = 10
rank level.Unary = 11
rank level.Power = 12
rank level.Postfix = 13
rank level.Atom = 14

-- the levels whose operators group to the left
abbrev pub groups_left : Level → Bool
groups_left level.Disjunction = true
groups_left level.Conjunction = true
groups_left level.BitOr = true
groups_left level.BitXor = true
groups_left level.BitAnd = true
groups_left level.Shift = true
groups_left level.Sum = true
groups_left level.Product = true
groups_left level.Conditional = false
groups_left level.Negation = false
groups_left level.Comparison = false
groups_left level.Unary = false
groups_left level.Power = false
groups_left level.Postfix = false
groups_left level.Atom = false

-- the operator between two operands that a token is at a level, if it is one
abbrev pub operator_at : Level → Token → Option BinaryOp
operator_at level.Disjunction token = if is_word (codes "or") token then Some binary.Or else None
operator_at level.Conjunction token = if is_word (codes "and") token then Some binary.And else None
operator_at level.Comparison token =
    if is_symbol (codes "==") token then Some binary.Eq
    else if is_symbol (codes "!=") token then Some binary.Ne
    else if is_symbol (codes "<") token then Some binary.Lt
    else if is_symbol (codes "<=") token then Some binary.Le
    else if is_symbol (codes ">") token then Some binary.Gt
    else if is_symbol (codes ">=") token then Some binary.Ge
    else None
operator_at level.BitOr token = if is_symbol (codes "|") token then Some binary.BitOr else None
operator_at level.BitXor token = if is_symbol (codes "^") token then Some binary.BitXor else None
operator_at level.BitAnd token = if is_symbol (codes "&") token then Some binary.BitAnd else None
operator_at level.Shift token =
    if is_symbol (codes "<<") token then Some binary.Shl
    else if is_symbol (codes ">>") token then Some binary.Shr
    else None
operator_at level.Sum token =
    if is_symbol (codes "+") token then Some binary.Add
    else if is_symbol (codes "-") token then Some binary.Sub
    else None
operator_at level.Product token =
    if is_symbol (codes "*") token then Some binary.Mul
    else if is_symbol (codes "//") token then Some binary.FloorDiv
    else if is_symbol (codes "%") token then Some binary.Mod
    else None
operator_at level.Power token = if is_symbol (codes "**") token then Some binary.Pow else None
operator_at level.Conditional token = None
operator_at level.Negation token = None
operator_at level.Unary token = None
operator_at level.Postfix token = None
operator_at level.Atom token = None

-- the operator before an operand that a token is, if it is one
abbrev pub sign_of : Token → Option UnaryOp
sign_of token =
    if is_symbol (codes "-") token then Some unary.Minus
    else if is_symbol (codes "+") token then Some unary.Plus
    else if is_symbol (codes "~") token then Some unary.Invert
    else None
