-- The names that a body assigns, each with its place: the order in which they first come.
use Rattle.std.specs.Prelude.{ℕ, if◌then◌else◌, is_some, List, [], ◌∷◌, length, Option, Some, None}
use Rattle.pm_syn.specs.declared.expression.Arg.{Arg}
use Rattle.pm_syn.specs.declared.expression.Expr.{Expr, Expr-F, out-Expr}
use Rattle.pm_syn.specs.declared.statement.AssignOp.{AssignOp}
use Rattle.pm_syn.specs.declared.statement.AssignOp.TheVariants as assign
use Rattle.pm_syn.specs.declared.statement.Node.{Node, Node-F, fold-Node}
use Rattle.pm_syn.specs.declared.statement.Stmt.{Stmt, Stmt-F, out-Stmt}
use Rattle.pm_elab.specs.declared.body.Argument.{Argument}
use Rattle.pm_values.specs.Tables.{Names, get, put}

-- from names to more of them
abbrev pub Adding : Type 0
Adding = Names ℕ → Names ℕ

-- one name more, unless it is there
unfoldable pub with_name : List ℕ → Adding
with_name name own = if is_some (get own name) then own else put own name (length own)

-- an assignment to a name
abbrev pub name_assigned : Expr-F Expr Arg → Adding
name_assigned (Expr-F.Name name) own = with_name name own
name_assigned _ own = own

-- an assignment to a name
abbrev pub assigned_name : Expr → Adding
assigned_name to = name_assigned (out-Expr to)

-- the name that an assignment assigns, if it assigns one
abbrev pub target_name : AssignOp → Expr → Adding
target_name assign.Plain to own = assigned_name to own
target_name _ to own = own

-- the name of a statement that is no header
abbrev pub simple_name : Stmt-F Stmt → Adding
simple_name (Stmt-F.Assign o to e) own = target_name o to own
simple_name _ own = own

-- the name of a statement that is no header
abbrev pub name_alone : Stmt → Adding
name_alone s = simple_name (out-Stmt s)

-- the name of a statement behind a colon
abbrev pub name_after : Option Stmt → Adding
name_after (Some s) own = name_alone s own
name_after None own = own

-- the names of a line alone
abbrev pub line_names : Stmt-F Stmt → Adding
line_names (Stmt-F.If c after) own = name_after after own
line_names (Stmt-F.Elif c after) own = name_after after own
line_names (Stmt-F.Else after) own = name_after after own
line_names (Stmt-F.For name es after) own = name_after after (with_name name own)
line_names s own = simple_name s own

-- the names of a statement
unfoldable pub statement_names : Stmt → Adding
statement_names s = line_names (out-Stmt s)

-- one after the other
unfoldable pub all_added : List Adding → Adding
all_added [] own = own
all_added (f ∷ fs) own = all_added fs (f own)

-- the names of a line and of those below it
abbrev pub node_names_of : Node-F Adding → Adding
node_names_of n own = all_added n.body (statement_names n.stmt own)

-- the names of a line and of those below it
unfoldable pub node_names : Node → Adding
node_names = fold-Node Adding node_names_of

-- the names of arguments
unfoldable pub argument_names : List Argument → Adding
argument_names [] own = own
argument_names (a ∷ as') own = argument_names as' (with_name a.name own)
