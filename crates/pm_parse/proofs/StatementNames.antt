-- The names in a statement, by what it is made of.
use Rattle.std.proofs.Common.{◌≡◌, ◌∙◌, ℕ, Bool, List, [], ◌∷◌, ◌++◌, map, Option, Some, None, sym, ap}
use Rattle.pm_syn.specs.declared.expression.Expr.{Expr}
use Rattle.pm_syn.specs.declared.statement.AssignOp.{AssignOp}
use Rattle.pm_syn.specs.declared.statement.Par.{Par}
use Rattle.pm_syn.specs.declared.statement.Stmt.{Stmt, Stmt-F, fold-roll-Stmt}
use Rattle.pm_syn.specs.declared.statement.Stmt as leaf
use Rattle.pm_syn.specs.declared.statement.Stmt.TheVariants as variant
use Rattle.pm_syn.specs.declared.statement.Stmt.TheViews as stmt
use Rattle.pm_parse.specs.FileNames.{Names, all_names, names_of_expression, names_of_option, names_of_parameter, names_of_statement, optional_name, statement_over}

-- the names in what comes after a header's colon, if anything does
abbrev pub names_after_colon : Option Stmt → Names
names_after_colon None = []
names_after_colon (Some inner) = names_of_statement inner

-- an import
pub names-Import : names_of_statement leaf.Import ≡ []
names-Import = ap names_of_statement (sym variant.rolls-Import) ∙ fold-roll-Stmt Names statement_over Stmt-F.Import

-- a string that is alone
pub names-Doc : names_of_statement leaf.Doc ≡ []
names-Doc = ap names_of_statement (sym variant.rolls-Doc) ∙ fold-roll-Stmt Names statement_over Stmt-F.Doc

-- a statement that does nothing
pub names-Pass : names_of_statement leaf.Pass ≡ []
names-Pass = ap names_of_statement (sym variant.rolls-Pass) ∙ fold-roll-Stmt Names statement_over Stmt-F.Pass

-- a class
pub names-Class : (name : List ℕ) (base : Option (List ℕ)) → names_of_statement (leaf.Class name base) ≡ name ∷ optional_name base
names-Class name base = ap names_of_statement (sym (variant.rolls-Class name base)) ∙ fold-roll-Stmt Names statement_over (Stmt-F.Class name base)

-- a function
pub names-Def : (name : List ℕ) (has_self : Bool) (parameters : List Par) (note : Option Expr) (inner : Option Stmt)
    → names_of_statement (stmt.Def name has_self parameters note inner) ≡ name ∷ (all_names (map names_of_parameter parameters) ++ (names_of_option note ++ names_after_colon inner))
names-Def name has_self parameters note None = ap names_of_statement (sym (stmt.rolls-Def name has_self parameters note None)) ∙ fold-roll-Stmt Names statement_over (Stmt-F.Def name has_self parameters note None)
names-Def name has_self parameters note (Some inner) = ap names_of_statement (sym (stmt.rolls-Def name has_self parameters note (Some inner))) ∙ fold-roll-Stmt Names statement_over (Stmt-F.Def name has_self parameters note (Some inner))

-- a decorator
pub names-Mark : (name : List ℕ) → names_of_statement (leaf.Mark name) ≡ name ∷ []
names-Mark name = ap names_of_statement (sym (variant.rolls-Mark name)) ∙ fold-roll-Stmt Names statement_over (Stmt-F.Mark name)

-- a guard
pub names-NonBlocking : (e : Expr) → names_of_statement (leaf.NonBlocking e) ≡ names_of_expression e
names-NonBlocking e = ap names_of_statement (sym (variant.rolls-NonBlocking e)) ∙ fold-roll-Stmt Names statement_over (Stmt-F.NonBlocking e)

-- the end of a function
pub names-Return : (e : Expr) → names_of_statement (leaf.Return e) ≡ names_of_expression e
names-Return e = ap names_of_statement (sym (variant.rolls-Return e)) ∙ fold-roll-Stmt Names statement_over (Stmt-F.Return e)

-- an assertion
pub names-Assert : (e : Expr) → names_of_statement (leaf.Assert e) ≡ names_of_expression e
names-Assert e = ap names_of_statement (sym (variant.rolls-Assert e)) ∙ fold-roll-Stmt Names statement_over (Stmt-F.Assert e)

-- a first branch
pub names-If : (condition : Expr) (inner : Option Stmt) → names_of_statement (stmt.If condition inner) ≡ names_of_expression condition ++ names_after_colon inner
names-If condition None = ap names_of_statement (sym (stmt.rolls-If condition None)) ∙ fold-roll-Stmt Names statement_over (Stmt-F.If condition None)
names-If condition (Some inner) = ap names_of_statement (sym (stmt.rolls-If condition (Some inner))) ∙ fold-roll-Stmt Names statement_over (Stmt-F.If condition (Some inner))

-- a further branch
pub names-Elif : (condition : Expr) (inner : Option Stmt) → names_of_statement (stmt.Elif condition inner) ≡ names_of_expression condition ++ names_after_colon inner
names-Elif condition None = ap names_of_statement (sym (stmt.rolls-Elif condition None)) ∙ fold-roll-Stmt Names statement_over (Stmt-F.Elif condition None)
names-Elif condition (Some inner) = ap names_of_statement (sym (stmt.rolls-Elif condition (Some inner))) ∙ fold-roll-Stmt Names statement_over (Stmt-F.Elif condition (Some inner))

-- the last branch
pub names-Else : (inner : Option Stmt) → names_of_statement (stmt.Else inner) ≡ names_after_colon inner
names-Else None = ap names_of_statement (sym (stmt.rolls-Else None)) ∙ fold-roll-Stmt Names statement_over (Stmt-F.Else None)
names-Else (Some inner) = ap names_of_statement (sym (stmt.rolls-Else (Some inner))) ∙ fold-roll-Stmt Names statement_over (Stmt-F.Else (Some inner))

-- a loop
pub names-For : (name : List ℕ) (bounds : List Expr) (inner : Option Stmt) → names_of_statement (stmt.For name bounds inner) ≡ name ∷ (all_names (map names_of_expression bounds) ++ names_after_colon inner)
names-For name bounds None = ap names_of_statement (sym (stmt.rolls-For name bounds None)) ∙ fold-roll-Stmt Names statement_over (Stmt-F.For name bounds None)
names-For name bounds (Some inner) = ap names_of_statement (sym (stmt.rolls-For name bounds (Some inner))) ∙ fold-roll-Stmt Names statement_over (Stmt-F.For name bounds (Some inner))

-- an assignment
pub names-Assign : (op : AssignOp) (target value : Expr) → names_of_statement (leaf.Assign op target value) ≡ names_of_expression target ++ names_of_expression value
names-Assign op target value = ap names_of_statement (sym (variant.rolls-Assign op target value)) ∙ fold-roll-Stmt Names statement_over (Stmt-F.Assign op target value)

-- a connection to a lambda
pub names-JoinLambda : (target value : Expr) → names_of_statement (leaf.JoinLambda target value) ≡ names_of_expression target ++ names_of_expression value
names-JoinLambda target value = ap names_of_statement (sym (variant.rolls-JoinLambda target value)) ∙ fold-roll-Stmt Names statement_over (Stmt-F.JoinLambda target value)

-- an annotation
pub names-Note : (target note : Expr) (value : Option Expr) → names_of_statement (leaf.Note target note value) ≡ names_of_expression target ++ (names_of_expression note ++ names_of_option value)
names-Note target note value = ap names_of_statement (sym (variant.rolls-Note target note value)) ∙ fold-roll-Stmt Names statement_over (Stmt-F.Note target note value)

-- an expression alone
pub names-Do : (e : Expr) → names_of_statement (leaf.Do e) ≡ names_of_expression e
names-Do e = ap names_of_statement (sym (variant.rolls-Do e)) ∙ fold-roll-Stmt Names statement_over (Stmt-F.Do e)
