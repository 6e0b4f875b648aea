-- What the layout looks at in a line.
use Rattle.std.specs.Prelude.{◌||◌, ℕ, Bool, true, false, List, codes, if◌then◌else◌, Option, Some, None}
use Rattle.std.specs.Str.{bytes_eq}
use Rattle.pm_syn.specs.declared.expression.Expr.{Expr, Expr-F}
use Rattle.pm_syn.specs.declared.expression.Expr.TheViews.{out-Expr}
use Rattle.pm_syn.specs.declared.statement.AssignOp.{AssignOp}
use Rattle.pm_syn.specs.declared.statement.AssignOp.TheVariants as assign
use Rattle.pm_syn.specs.declared.statement.Stmt.{Stmt, Stmt-F}
use Rattle.pm_syn.specs.declared.statement.Stmt.TheViews.{out-Stmt}
use Rattle.pm_parse.specs.declared.form.AfterColon.{AfterColon}
use Rattle.pm_parse.specs.declared.form.AfterColon.TheVariants as colon
use Rattle.pm_parse.specs.declared.form.Form.{Form}
use Rattle.pm_parse.specs.declared.form.Form.TheVariants as form
use Rattle.pm_parse.specs.declared.form.LineForm.{LineForm}

-- the outermost part of an expression is a name
abbrev pub is_name_at : {A B : Type 0} → Expr-F A B → Bool
is_name_at (Expr-F.Name name) = true
is_name_at other = false

-- the outermost part of an expression is a call
abbrev pub is_call_at : {A B : Type 0} → Expr-F A B → Bool
is_call_at (Expr-F.Call callee arguments) = true
is_call_at other = false

-- an expression that is a name
abbrev pub is_name : Expr → Bool
is_name e = is_name_at (out-Expr e)

-- an expression that is a call
abbrev pub is_call : Expr → Bool
is_call e = is_call_at (out-Expr e)

-- a class with this base
abbrev pub class_form : Option (List ℕ) → Form
class_form None = form.BitstructClass
class_form (Some base) =
    if bytes_eq base (codes "Component") then form.ComponentClass
    else if bytes_eq base (codes "Interface") then form.InterfaceClass
    else form.OtherClass

-- a function of this name; it has `s` as its first parameter, or no parameters
abbrev pub function_form : List ℕ → Bool → Form
function_form name false = form.Block
function_form name true = if bytes_eq name (codes "construct") then form.Construct else form.Method

-- a decorator of this name
abbrev pub decorator_form : List ℕ → Form
decorator_form name =
    if bytes_eq name (codes "bitstruct") then form.BitstructDecorator
    else if bytes_eq name (codes "update")
    || (bytes_eq name (codes "update_ff") || bytes_eq name (codes "update_once"))
    then form.BlockDecorator
    else form.OtherDecorator

-- an assignment to this target
abbrev pub assignment_form : AssignOp → Expr → Form
assignment_form assign.Plain target = if is_name target then form.NameAssignment else form.Assignment
assignment_form assign.Now target = form.SignalAssignment
assignment_form assign.Next target = form.SignalAssignment
assignment_form assign.Join target = form.Connection

-- an annotation of this target, with a value or without one
abbrev pub annotation_form : Expr → Option Expr → Form
annotation_form target (Some value) = form.State
annotation_form target None = if is_name target then form.Field else form.Annotation

-- an expression alone
abbrev pub expression_form : Expr → Form
expression_form e = if is_call e then form.Call else form.Expression

-- the form of a statement by its outermost part; what follows a colon doesn't count
abbrev pub form_at : {A : Type 0} → Stmt-F A → Form
form_at (Stmt-F.Import) = form.Import
form_at (Stmt-F.Doc) = form.Doc
form_at (Stmt-F.Pass) = form.Pass
form_at (Stmt-F.Class name base) = class_form base
form_at (Stmt-F.Def name has_self parameters annotation inner) = function_form name has_self
form_at (Stmt-F.Mark name) = decorator_form name
form_at (Stmt-F.NonBlocking e) = form.Guard
form_at (Stmt-F.Return e) = form.Return
form_at (Stmt-F.Assert e) = form.Assert
form_at (Stmt-F.If condition inner) = form.If
form_at (Stmt-F.Elif condition inner) = form.Elif
form_at (Stmt-F.Else inner) = form.Else
form_at (Stmt-F.For name bounds inner) = form.For
form_at (Stmt-F.Assign op target value) = assignment_form op target
form_at (Stmt-F.JoinLambda target value) = form.Connection
form_at (Stmt-F.Note target annotation value) = annotation_form target value
form_at (Stmt-F.Do e) = expression_form e

-- the form of a statement
abbrev pub form_of : Stmt → Form
form_of statement = form_at (out-Stmt statement)

-- what follows the colon of a header: nothing, or this statement
abbrev pub after_colon : Option Stmt → AfterColon
after_colon None = colon.Body
after_colon (Some inner) = colon.Statement (form_of inner)

-- the same by the statement's outermost part
abbrev pub after_colon_at : Stmt-F Stmt → AfterColon
after_colon_at (Stmt-F.Class name base) = colon.Body
after_colon_at (Stmt-F.Def name has_self parameters annotation inner) = after_colon inner
after_colon_at (Stmt-F.If condition inner) = after_colon inner
after_colon_at (Stmt-F.Elif condition inner) = after_colon inner
after_colon_at (Stmt-F.Else inner) = after_colon inner
after_colon_at (Stmt-F.For name bounds inner) = after_colon inner
after_colon_at other = colon.NoColon

-- what follows the colon of a statement, if it is a header
abbrev pub after_colon_of : Stmt → AfterColon
after_colon_of statement = after_colon_at (out-Stmt statement)

-- the line with this statement, at this column
abbrev pub line_of : ℕ → Stmt → LineForm
line_of column statement = record {
  column = column;
  form = form_of statement;
  after_colon = after_colon_of statement;
}
