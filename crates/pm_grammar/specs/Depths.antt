-- How deep expressions are, and the deepest of a statement.
use Rattle.std.specs.Prelude.{ℕ, ◌+◌, List, [], ◌∷◌, map, max, Option, Some, None}
use Rattle.pm_syn.specs.declared.expression.Arg.{Arg, Arg-F, fold-Arg}
use Rattle.pm_syn.specs.declared.expression.Expr.{Expr, Expr-F, fold-Expr}
use Rattle.pm_syn.specs.declared.statement.Par.{Par}
use Rattle.pm_syn.specs.declared.statement.Stmt.{Stmt, Stmt-F, fold-Stmt}

-- the greatest of some numbers, 0 if there are none
abbrev pub greatest : List ℕ → ℕ
greatest [] = 0
greatest (n ∷ others) = max n (greatest others)

-- the depth of an expression, once each of its parts has a depth
abbrev pub depth_over : Expr-F ℕ ℕ → ℕ
depth_over (Expr-F.Name name) = 1
depth_over (Expr-F.Int number) = 1
depth_over (Expr-F.Bool truth) = 1
depth_over (Expr-F.Unary op a) = 1 + a
depth_over (Expr-F.Binary op a b) = 1 + greatest (a ∷ b ∷ [])
depth_over (Expr-F.Cond a condition b) = 1 + greatest (a ∷ condition ∷ b ∷ [])
depth_over (Expr-F.Attr a name) = 1 + a
depth_over (Expr-F.Call callee arguments) = 1 + greatest (callee ∷ arguments)
depth_over (Expr-F.Index a index) = 1 + greatest (a ∷ index ∷ [])
depth_over (Expr-F.Slice a low high) = 1 + greatest (a ∷ low ∷ high ∷ [])
depth_over (Expr-F.Items items) = 1 + greatest items
depth_over (Expr-F.Each a name bounds) = 1 + greatest (a ∷ bounds)

-- the depth of an argument, once its value has a depth
abbrev pub argument_over : Arg-F ℕ ℕ → ℕ
argument_over argument = argument.value

-- the depth of an expression
abbrev pub depth_of : Expr → ℕ
depth_of = fold-Expr ℕ ℕ depth_over argument_over

-- the depth of the value of an argument
abbrev pub depth_of_argument : Arg → ℕ
depth_of_argument = fold-Arg ℕ ℕ depth_over argument_over

-- the depth of an expression that may be absent
abbrev pub depth_of_option : Option Expr → ℕ
depth_of_option None = 0
depth_of_option (Some e) = depth_of e

-- the greatest depth of a parameter's annotation and its default
abbrev pub depth_of_parameter : Par → ℕ
depth_of_parameter p = max (depth_of_option p.note) (depth_of_option p.default)

-- the depth of the statement after a header's colon, if there is one
abbrev pub depth_of_body : Option ℕ → ℕ
depth_of_body None = 0
depth_of_body (Some depth) = depth

-- the greatest depth of a statement's expressions, once the statement after its colon has one
abbrev pub statement_over : Stmt-F ℕ → ℕ
statement_over (Stmt-F.Import) = 0
statement_over (Stmt-F.Doc) = 0
statement_over (Stmt-F.Pass) = 0
statement_over (Stmt-F.Class name base) = 0
statement_over (Stmt-F.Def name has_self parameters note body) =
    greatest (depth_of_body body ∷ depth_of_option note ∷ map depth_of_parameter parameters)
statement_over (Stmt-F.Mark name) = 0
statement_over (Stmt-F.NonBlocking e) = depth_of e
statement_over (Stmt-F.Return e) = depth_of e
statement_over (Stmt-F.Assert e) = depth_of e
statement_over (Stmt-F.If condition body) = max (depth_of condition) (depth_of_body body)
statement_over (Stmt-F.Elif condition body) = max (depth_of condition) (depth_of_body body)
statement_over (Stmt-F.Else body) = depth_of_body body
statement_over (Stmt-F.For name bounds body) = greatest (depth_of_body body ∷ map depth_of bounds)
statement_over (Stmt-F.Assign op target value) = max (depth_of target) (depth_of value)
statement_over (Stmt-F.JoinLambda target value) = max (depth_of target) (depth_of value)
statement_over (Stmt-F.Note target note value) =
    greatest (depth_of target ∷ depth_of note ∷ depth_of_option value ∷ [])
statement_over (Stmt-F.Do e) = depth_of e

-- the greatest depth of the expressions in a statement, 0 if there are none
abbrev pub depth_of_statement : Stmt → ℕ
depth_of_statement = fold-Stmt ℕ statement_over
