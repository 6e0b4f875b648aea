-- What the lines of `construct` do, by their tree: each to the run of `construct` in which it stands.
use Rattle.std.specs.Prelude.{ℕ, ◌+◌, ℤ, pos, Bool, true, false, not, ◌&&◌, if◌then◌else◌, List, [], ◌∷◌, ◌++◌, map, length, codes, decimal, Option, Some, None, is_some, Ok, Err}
use Rattle.std.specs.List.{list_any}
use Rattle.std.specs.Str.{bytes_eq}
use Rattle.pm_bits.specs.Word.{Word}
use Rattle.pm_design.specs.declared.body.BlockSort.{BlockSort}
use Rattle.pm_design.specs.declared.body.BlockSort.TheVariants as sort
use Rattle.pm_syn.specs.declared.expression.Arg.{Arg}
use Rattle.pm_syn.specs.declared.expression.Expr.{Expr, Expr-F, out-Expr}
use Rattle.pm_syn.specs.declared.statement.AssignOp.{AssignOp}
use Rattle.pm_syn.specs.declared.statement.AssignOp.TheVariants as assign
use Rattle.pm_syn.specs.declared.statement.Node.{Node, Node-F, fold-Node, out-Node, roll-Node}
use Rattle.pm_syn.specs.declared.statement.Stmt.{Stmt, Stmt-F, out-Stmt}
use Rattle.pm_values.specs.declared.fault.BuildFault.TheVariants.{BadArguments, WrongKind, IntRange, SameName, AssertFailed}
use Rattle.pm_values.specs.declared.reference.Reference.{Reference}
use Rattle.pm_values.specs.declared.reference.ValueType.{ValueType}
use Rattle.pm_values.specs.declared.value.Member.{Member}
use Rattle.pm_values.specs.declared.value.New.TheVariants as new
use Rattle.pm_values.specs.declared.value.Taken.TheVariants as taken
use Rattle.pm_values.specs.declared.value.Value.{Value, Value-F, out-Value}
use Rattle.pm_values.specs.declared.value.Value.TheVariants as value
use Rattle.pm_values.specs.Integers.{is_zero}
use Rattle.pm_values.specs.Tables.{get}
use Rattle.pm_elab.specs.declared.body.BodyPlace.{BodyPlace}
use Rattle.pm_elab.specs.declared.body.BodyPlace.TheVariants as place
use Rattle.pm_elab.specs.declared.body.Code.{Code}
use Rattle.pm_elab.specs.declared.body.Code.TheVariants as code
use Rattle.pm_elab.specs.declared.call.Called.{Called}
use Rattle.pm_elab.specs.declared.call.Called.TheVariants as calls
use Rattle.pm_elab.specs.declared.call.Given.{Given}
use Rattle.pm_elab.specs.declared.frame.Frame.{Frame}
use Rattle.pm_elab.specs.declared.function.Function.TheVariants as function
use Rattle.pm_elab.specs.declared.state.Start.{Start}
use Rattle.pm_elab.specs.declared.statement.Before.{Before}
use Rattle.pm_elab.specs.declared.statement.Before.TheVariants as before
use Rattle.pm_elab.specs.declared.target.Target.{Target}
use Rattle.pm_elab.specs.declared.target.Target.TheVariants as target
use Rattle.pm_elab.specs.Connections.{in_component, connected}
use Rattle.pm_elab.specs.Elab.{Checked, and_then, or_else, Elab, ◌>>=◌, ◌>>◌, pure, fail, lift, reading, step}
use Rattle.pm_elab.specs.Expressions.{Make, Passed, meaning, passed, int_of, range, callee, call_of, given}
use Rattle.pm_elab.specs.Functions.{are_unnamed, both}
use Rattle.pm_elab.specs.Placing.{local_put, attribute_set, assigned, target_of}
use Rattle.pm_elab.specs.Sites.{Scope, Site, inside, named}
use Rattle.pm_elab.specs.Values.{type_in, is_settled, constant_of}

-- ---- update blocks

-- the component has a block of the name
unfoldable pub has_block : Frame → List ℕ → Bool
has_block f name = list_any (λ b. bytes_eq b.name name) f.kind.blocks

-- a further body
abbrev pub with_body : Frame → BodyPlace → ℕ → Code → Frame
with_body f p line body = record f { raw = record f.raw { bodies = f.raw.bodies ++ record { place = p; line = line; code = body } ∷ [] } }

-- a further body
unfoldable pub body_put : BodyPlace → ℕ → Code → Frame → Frame
body_put p line body f = with_body f p line body

-- a further block, whose body isn't typed yet
abbrev pub with_block : Frame → List ℕ → BlockSort → Frame
with_block f name s = record f { kind = record f.kind { blocks = f.kind.blocks ++ record { name = name; sort = s; body = []; temps = [] } ∷ [] } }

-- a further block, whose body isn't typed yet
unfoldable pub block_set : List ℕ → BlockSort → Frame → Frame
block_set name s f = with_block f name s

-- a block of a new name, and its body
unfoldable pub block_put : List ℕ → BlockSort → ℕ → Code → Frame → Checked Frame
block_put name s line body f =
    if has_block f name then Err (SameName line)
    else Ok (body_put (place.Block (length f.kind.blocks)) line body (block_set name s f))

-- a statement after the colon, or the lines below
unfoldable pub body_nodes : Option Stmt → List Node → ℕ → List Node
body_nodes None below line = below
body_nodes (Some s) below line = roll-Node (record { line = line; stmt = s; body = [] }) ∷ []

-- `def name(): ..` under a decorator
unfoldable pub block_def : List ℕ → BlockSort → Option Stmt → List Node → ℕ → Frame → Checked Frame
block_def name s after below line f = in_component f line (block_put name s line (code.Statements (body_nodes after below line)) f)

-- the name of the lambda of a number
unfoldable pub lambda_name : ℕ → List ℕ
lambda_name k = codes "lambda_" ++ decimal k

-- one lambda more
abbrev pub one_lambda_more : Frame → Frame
one_lambda_more f = record f { lambdas = f.lambdas + 1 }

-- a block of one assignment, with its target as it is now
unfoldable pub lambda_put : Reference → Expr → ℕ → Frame → Checked Frame
lambda_put r e line f =
    and_then (block_put (lambda_name f.lambdas) sort.Update line (code.Lambda r e) f) (λ g. Ok (one_lambda_more g))

-- the target is an own signal or a port of a child
abbrev pub lambda_at : Expr → ℕ → Frame → Value-F Value Member → Checked Frame
lambda_at e line f (Value-F.Taken (taken.Signal r)) = lambda_put r e line f
lambda_at e line f _ = Err (WrongKind line)

-- `a //= lambda: e`, once a has a value
unfoldable pub lambda_block : Value → Expr → ℕ → Frame → Checked Frame
lambda_block v e line f = in_component f line (lambda_at e line f (out-Value v))

-- ---- state

-- a number of the width, or else the fault
abbrev pub start_with : ℕ → ℕ → Option Word → Checked Start
start_with line maxlen w = and_then (or_else w (IntRange line)) (λ x. Ok (record { maxlen = maxlen; value = x }))

-- a deque is empty at first, and a number is a constant of its width
abbrev pub start_at : ℕ → ℕ → Value-F Value Member → Checked Start
start_at line width (Value-F.New (new.Deque n)) = start_with line n (constant_of width (pos 0))
start_at line width (Value-F.Int n) = start_with line 0 (constant_of width n)
start_at line width _ = Err (WrongKind line)

-- what a state starts with
unfoldable pub start_of : ℕ → ℕ → Value → Checked Start
start_of line width v = start_at line width (out-Value v)

-- a further state, which is an attribute
abbrev pub with_state : Frame → List ℕ → ValueType → Start → Frame
with_state f name t start = record f {
  kind = record f.kind { states = f.kind.states ++ record { name = name; width = t.width; maxlen = start.maxlen; start = start.value } ∷ [] };
  raw = record f.raw { states = f.raw.states ++ t ∷ [] };
}

-- a state takes its name
unfoldable pub state_set : List ℕ → ValueType → Start → Frame → Frame
state_set name t start f = attribute_set name (value.Taken (taken.State (length f.kind.states))) (with_state f name t start)

-- a state of a new name
unfoldable pub state_named : List ℕ → ValueType → Value → ℕ → Frame → Checked Frame
state_named name t v line f =
    if bytes_eq name (codes "clk") then Err (WrongKind line)
    else and_then (start_of line t.width v)
    (λ start. if is_some (get f.raw.attributes name) then Err (SameName line) else Ok (state_set name t start f))

-- a state is an attribute of `s`
abbrev pub state_to : Target → ValueType → Value → ℕ → Frame → Checked Frame
state_to (target.Attribute name) t v line f = state_named name t v line f
state_to _ t v line f = Err (WrongKind line)

-- `s.name : T = c`, once T and c have values
unfoldable pub state_put : Target → ValueType → Value → ℕ → Frame → Checked Frame
state_put to t v line f = in_component f line (state_to to t v line f)

-- ---- constraints

-- a further constraint
abbrev pub rule_at : ℕ → Frame → Value-F Value Member → Checked Frame
rule_at line f (Value-F.Rule t u) = Ok (record f {
  kind = record f.kind { rules = f.kind.rules ++ record { line = line; before = t; after = u } ∷ [] };
})
rule_at line f _ = Err (WrongKind line)

-- a further constraint
unfoldable pub rule_put : Value → ℕ → Frame → Checked Frame
rule_put v line f = rule_at line f (out-Value v)

-- the constraints of a call, in order
unfoldable pub rules_put : List Given → ℕ → Frame → Checked Frame
rules_put [] line f = Ok f
rules_put (g ∷ gs) line f = and_then (rule_put g.value line f) (λ h. rules_put gs line h)

-- `s.add_constraints( .. )`, once its arguments have values
unfoldable pub constrained : List Given → ℕ → Frame → Checked Frame
constrained gs line f =
    if are_unnamed gs then in_component f line (rules_put gs line f) else Err (BadArguments line)

-- ---- statements

-- the value is `s`
abbrev pub own_value_at : Value-F Value Member → Bool
own_value_at Value-F.Own = true
own_value_at _ = false

-- the value is `s`
abbrev pub is_own_value : Option Value → Bool
is_own_value None = false
is_own_value (Some v) = own_value_at (out-Value v)

-- the name of an expression that is a name alone
abbrev pub own_name_at : Site → Expr-F Expr Arg → Bool
own_name_at site (Expr-F.Name n) = is_own_value (named site n)
own_name_at site _ = false

-- a name alone that means `s`
unfoldable pub is_own : Site → Expr → Bool
is_own site e = own_name_at site (out-Expr e)

-- `s.add_constraints`
abbrev pub constrains_at : Site → Expr-F Expr Arg → Bool
constrains_at site (Expr-F.Attr e name) = bytes_eq name (codes "add_constraints") && is_own site e
constrains_at site _ = false

-- the expression is `s.add_constraints`
unfoldable pub constrains : Site → Expr → Bool
constrains site e = constrains_at site (out-Expr e)

-- a value that nothing takes has nothing new in it
unfoldable pub unused : Value → ℕ → Frame → Checked Frame
unused v line f = if is_settled v then Ok f else Err (WrongKind line)

-- two values are connected, by what was made so far
abbrev pub connect : Value → Value → ℕ → Frame → Elab Frame
connect a b line f = reading (λ m. connected m.kinds a b line f)

-- `connect( a, b )`
unfoldable pub connect_call : List Passed → Site → Frame → Elab Frame
connect_call ps site f = given ps site >>= (λ gs. lift (both site.line gs)) >>= (λ vs. connect vs.0 vs.1 site.line f)

-- a call whose value nothing takes
unfoldable pub unused_call : Make → Called → List Passed → Site → Frame → Elab Frame
unused_call make c ps site f = call_of make c ps site >>= (λ v. lift (unused v site.line f))

-- a call on its own
abbrev pub call_statement_of : Make → Called → List Passed → Site → Frame → Elab Frame
call_statement_of make (calls.Function function.Connect) ps site f = connect_call ps site f
call_statement_of make c ps site f = unused_call make c ps site f

-- a call on its own, once it is known what is called
unfoldable pub call_statement : Make → Called → List Passed → Site → Frame → Elab Frame
call_statement = call_statement_of

-- `s.add_constraints( .. )`
unfoldable pub constraint_call : List Passed → Site → Frame → Elab Frame
constraint_call ps site f = given ps site >>= (λ gs. lift (constrained gs site.line f))

-- a call on its own that adds no constraint
unfoldable pub plain_call : Make → Expr → List Passed → Site → Frame → Elab Frame
plain_call make e ps site f = callee (meaning make e) site >>= (λ c. call_statement make c ps site f)

-- a call on its own
unfoldable pub do_call : Make → Expr → List Passed → Site → Frame → Elab Frame
do_call make e ps site f = if constrains site e then constraint_call ps site f else plain_call make e ps site f

-- a value that nothing takes
unfoldable pub do_value : Make → Expr → Site → Frame → Elab Frame
do_value make e site f = (meaning make e).value site >>= (λ v. lift (unused v site.line f))

-- an expression on its own
abbrev pub do_at : Make → Expr → Expr-F Expr Arg → Site → Frame → Elab Frame
do_at make whole (Expr-F.Call e args) site f = do_call make e (map (passed make) args) site f
do_at make whole _ site f = do_value make whole site f

-- an expression on its own
unfoldable pub do_statement : Make → Expr → Site → Frame → Elab Frame
do_statement make e site f = do_at make e (out-Expr e) site f

-- `assert e`
unfoldable pub assertion : Make → Expr → Site → Frame → Elab Frame
assertion make e site f = int_of (meaning make e) site >>= (λ n. if is_zero n then fail (AssertFailed site.line) else pure f)

-- `a = e`: e first
unfoldable pub assignment : Make → Expr → Expr → Site → Frame → Elab Frame
assignment make to e site f =
    (meaning make e).value site >>= (λ v. reading (λ m. assigned (target_of to) m.kinds v site.line f))

-- `a //= b`
unfoldable pub join : Make → Expr → Expr → Site → Frame → Elab Frame
join make a b site f =
    (meaning make a).value site >>= (λ v. (meaning make b).value site >>= (λ w. connect v w site.line f))

-- `a //= lambda: e`
unfoldable pub lambda : Make → Expr → Expr → Site → Frame → Elab Frame
lambda make to e site f = (meaning make to).value site >>= (λ v. lift (lambda_block v e site.line f))

-- the type of a state
unfoldable pub state_type : Make → Expr → Site → Elab ValueType
state_type make t site = (meaning make t).value site >>= (λ v. lift (type_in site.line v))

-- `s.name : T = c`: T first
unfoldable pub state : Make → Expr → Expr → Expr → Site → Frame → Elab Frame
state make to t e site f =
    state_type make t site >>= (λ ty. (meaning make e).value site >>= (λ v. lift (state_put (target_of to) ty v site.line f)))

-- `a = b` and `a //= b`; others can't stand in `construct`, and do nothing
abbrev pub assign_by : AssignOp → Make → Expr → Expr → Site → Frame → Elab Frame
assign_by assign.Plain make a b site f = assignment make a b site f
assign_by assign.Join make a b site f = join make a b site f
assign_by _ make a b site f = pure f

-- a statement that has no others in it; those that can't stand in `construct` do nothing
abbrev pub simple_at : Make → Stmt-F Stmt → Site → Frame → Elab Frame
simple_at make (Stmt-F.Assert e) site f = assertion make e site f
simple_at make (Stmt-F.Assign op a b) site f = assign_by op make a b site f
simple_at make (Stmt-F.JoinLambda to e) site f = lambda make to e site f
simple_at make (Stmt-F.Note to t (Some e)) site f = state make to t e site f
simple_at make (Stmt-F.Note to t None) site f = fail (WrongKind site.line)
simple_at make (Stmt-F.Do e) site f = do_statement make e site f
simple_at make _ site f = pure f

-- a statement that has no others in it
unfoldable pub simple_statement : Make → Stmt → Site → Frame → Elab Frame
simple_statement make s site f = simple_at make (out-Stmt s) site f

-- a statement that has no others in it costs a step
unfoldable pub simple : Make → Scope → Stmt → ℕ → Frame → Elab Frame
simple make file s line f = step line >> simple_statement make s (inside file f line) f

-- ---- lines

-- a line and those below it: by what stands before it, the frame and what stands before the next line
abbrev pub Line : Type 0
Line = Before → Frame → Elab (Frame × Before)

-- lines one after the other
unfoldable pub lines : List Line → Before → Frame → Elab Frame
lines [] b f = pure f
lines (l ∷ ls) b f = l b f >>= (λ r. lines ls r.1 r.0)

-- a statement after the colon, or else the lines below
abbrev pub body_of : Make → Scope → Option Stmt → List Line → ℕ → Frame → Elab Frame
body_of make file None below line f = lines below before.Nothing f
body_of make file (Some s) below line f = simple make file s line f

-- the body of a header
unfoldable pub body : Make → Scope → Option Stmt → List Line → ℕ → Frame → Elab Frame
body = body_of

-- the body of a branch that is taken
unfoldable pub taken_branch : Make → Scope → Option Stmt → List Line → ℕ → Frame → Elab (Frame × Before)
taken_branch make file s below line f = body make file s below line f >>= (λ g. pure (g, before.Taken))

-- whether a condition holds; it costs a step
unfoldable pub condition : Make → Scope → Expr → ℕ → Frame → Elab (Frame × Bool)
condition make file c line f = step line >> int_of (meaning make c) (inside file f line) >>= (λ n. pure (f, not (is_zero n)))

-- `if` and `elif`
unfoldable pub branch : Make → Scope → Expr → Option Stmt → List Line → ℕ → Frame → Elab (Frame × Before)
branch make file c s below line f =
    condition make file c line f
    >>= (λ r. if r.1 then taken_branch make file s below line r.0 else pure (r.0, before.Nothing))

-- nothing, where an earlier branch was taken
abbrev pub unless_taken : Before → Frame → Elab (Frame × Before) → Elab (Frame × Before)
unless_taken before.Taken f other = pure (f, before.Taken)
unless_taken _ f other = other

-- `elif`, unless an earlier branch was taken
unfoldable pub later_branch : Make → Scope → Expr → Option Stmt → List Line → ℕ → Before → Frame → Elab (Frame × Before)
later_branch make file c s below line b f = unless_taken b f (branch make file c s below line f)

-- `else`, unless an earlier branch was taken
unfoldable pub last_branch : Make → Scope → Option Stmt → List Line → ℕ → Before → Frame → Elab (Frame × Before)
last_branch make file s below line b f = unless_taken b f (taken_branch make file s below line f)

-- a turn of a loop costs a step, sets the name and runs the body
unfoldable pub turn : Make → Scope → List ℕ → Option Stmt → List Line → ℕ → ℤ → Frame → Elab Frame
turn make file name s below line n f = step line >> body make file s below line (local_put name (value.Int n) f)

-- the turns of a loop
unfoldable pub turns_of : Make → Scope → List ℕ → Option Stmt → List Line → ℕ → List ℤ → Frame → Elab Frame
turns_of make file name s below line [] f = pure f
turns_of make file name s below line (n ∷ ns) f =
    turn make file name s below line n f >>= (λ g. turns_of make file name s below line ns g)

-- the integers of a loop; it costs a step
unfoldable pub loop_range : Make → Scope → List Expr → ℕ → Frame → Elab (Frame × List ℤ)
loop_range make file arguments line f =
    step line >> range (map (meaning make) arguments) (inside file f line) >>= (λ ns. pure (f, ns))

-- `for name in range( .. ):`
unfoldable pub repeat : Make → Scope → List ℕ → List Expr → Option Stmt → List Line → ℕ → Frame → Elab (Frame × Before)
repeat make file name arguments s below line f =
    loop_range make file arguments line f
    >>= (λ r. turns_of make file name s below line r.1 r.0)
    >>= (λ g. pure (g, before.Nothing))

-- `def` under a decorator costs a step; under none it does nothing
abbrev pub def_by : Before → List ℕ → Option Stmt → List Node → ℕ → Frame → Elab (Frame × Before)
def_by (before.Decorator s) name after below line f =
    step line >> lift (block_def name s after below line f) >>= (λ g. pure (g, before.Nothing))
def_by _ name after below line f = pure (f, before.Nothing)

-- `def` in `construct`
unfoldable pub def : Before → List ℕ → Option Stmt → List Node → ℕ → Frame → Elab (Frame × Before)
def = def_by

-- when a block under the decorator runs
unfoldable pub decorator : List ℕ → BlockSort
decorator name =
    if bytes_eq name (codes "update_ff") then sort.Edge else (if bytes_eq name (codes "update_once") then sort.Once else sort.Update)

-- any other statement
unfoldable pub plain : Make → Scope → Stmt → ℕ → Frame → Elab (Frame × Before)
plain make file s line f = simple make file s line f >>= (λ g. pure (g, before.Nothing))

-- a line, by its statement, what the lines below do, and these lines themselves
abbrev pub line_at : Make → Scope → Stmt → Stmt-F Stmt → List Line → List Node → ℕ → Line
line_at make file whole (Stmt-F.If c s) below nodes line b f = branch make file c s below line f
line_at make file whole (Stmt-F.Elif c s) below nodes line b f = later_branch make file c s below line b f
line_at make file whole (Stmt-F.Else s) below nodes line b f = last_branch make file s below line b f
line_at make file whole (Stmt-F.For name arguments s) below nodes line b f = repeat make file name arguments s below line f
line_at make file whole (Stmt-F.Def name own pars result s) below nodes line b f = def b name s nodes line f
line_at make file whole (Stmt-F.Mark name) below nodes line b f = pure (f, before.Decorator (decorator name))
line_at make file whole _ below nodes line b f = plain make file whole line f

-- a line, by its statement
unfoldable pub statement : Make → Scope → Stmt → List Line → List Node → ℕ → Line
statement make file s below nodes line = line_at make file s (out-Stmt s) below nodes line

-- what the lines below a line do, by what each does as the line that it is
abbrev pub below_of : List (Node → Line) → List Node → List Line
below_of (p ∷ ps) (n ∷ ns) = p n ∷ below_of ps ns
below_of _ _ = []

-- a line, by what those below it do
abbrev pub run_of : Make → Scope → Node-F (Node → Line) → Node → Line
run_of make file n whole =
    statement make file n.stmt (below_of n.body (out-Node whole).body) (out-Node whole).body n.line

-- a line and those below it
unfoldable pub run : Make → Scope → Node → Line
run make file n = fold-Node (Node → Line) (run_of make file) n n

-- the lines of a `construct`
abbrev pub run_all : Make → Scope → List Node → Frame → Elab Frame
run_all make file nodes = lines (map (run make file) nodes) before.Nothing
