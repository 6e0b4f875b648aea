-- The bodies of blocks, methods and guards.
use Rattle.std.specs.Prelude.{ℕ, ◌-◌, false, if◌then◌else◌, List, [], ◌∷◌, map, length, slice_get, replicate, take, Option, Some, None}
use Rattle.pm_design.specs.declared.body.Block.{Block}
use Rattle.pm_design.specs.declared.body.BlockSort.{BlockSort}
use Rattle.pm_design.specs.declared.body.BlockSort.TheVariants as block_sort
use Rattle.pm_design.specs.declared.body.Ex.{Ex}
use Rattle.pm_design.specs.declared.body.St.TheVariants as st
use Rattle.pm_design.specs.declared.design.Kind.{Kind}
use Rattle.pm_elab.specs.declared.body.Argument.{Argument}
use Rattle.pm_elab.specs.declared.body.BodyPlace.{BodyPlace}
use Rattle.pm_elab.specs.declared.body.BodyPlace.TheVariants as place
use Rattle.pm_elab.specs.declared.body.Code.{Code}
use Rattle.pm_elab.specs.declared.body.Code.TheVariants as code
use Rattle.pm_elab.specs.declared.body.MethodTypes.{MethodTypes}
use Rattle.pm_elab.specs.declared.body.RawBody.{RawBody}
use Rattle.pm_elab.specs.declared.elaboration.RawDesign.{RawDesign}
use Rattle.pm_elab.specs.declared.elaboration.RawKind.{RawKind}
use Rattle.pm_syn.specs.declared.expression.Expr.{Expr}
use Rattle.pm_syn.specs.declared.statement.Node.{Node, out-Node}
use Rattle.pm_syn.specs.declared.statement.Stmt.{Stmt, Stmt-F, out-Stmt}
use Rattle.pm_values.specs.declared.reference.Reference.{Reference}
use Rattle.pm_values.specs.declared.reference.ValueType.{ValueType}
use Rattle.pm_values.specs.Tables.{Names, get}
use Rattle.pm_typing.specs.declared.fault.TypeFault.TheVariants.{NotAllowedHere}
use Rattle.pm_typing.specs.declared.frame.Bound.TheVariants as bound
use Rattle.pm_typing.specs.declared.frame.Frame.{Frame}
use Rattle.pm_typing.specs.declared.operand.Operand.{Operand}
use Rattle.pm_typing.specs.declared.scope.BodySort.{BodySort}
use Rattle.pm_typing.specs.declared.scope.BodySort.TheVariants as sort
use Rattle.pm_typing.specs.Counted.{Counted, ◌>>=◌, ◌>>◌, pure, fail, lift, node}
use Rattle.pm_typing.specs.Expressions.{meaning, operand}
use Rattle.pm_typing.specs.Operands.{bits_in, condition, fitted}
use Rattle.pm_typing.specs.References.{type_of}
use Rattle.pm_typing.specs.Sites.{Scope, Site}
use Rattle.pm_types.specs.declared.bodies.TypedBody.{TypedBody}
use Rattle.pm_types.specs.declared.bodies.TypedBody.TheVariants as typed
use Rattle.pm_types.specs.Assignments.{right_value, with_bound, with_stored}
use Rattle.pm_types.specs.OwnNames.{all_added, node_names, argument_names}
use Rattle.pm_types.specs.Statements.{lines}
use Rattle.pm_types.specs.Targets.{may_write}

-- ---- where bodies begin

-- the sort of a block's body
abbrev pub sort_at : BlockSort → BodySort
sort_at block_sort.Update = sort.Update
sort_at block_sort.Once = sort.Once
sort_at block_sort.Edge = sort.Edge

-- the sort of a block's body
abbrev pub sort_of_block : Option Block → BodySort
sort_of_block (Some b) = sort_at b.sort
sort_of_block None = sort.Update

-- no name is assigned yet
unfoldable pub first_frame : ℕ → Frame
first_frame names =
    record { bounds = replicate names bound.Unassigned; stored = replicate names None; temps = []; out = [] }

-- the place of an argument's name, which is there
abbrev pub place_of : Option ℕ → ℕ
place_of (Some k) = k
place_of None = 0

-- an argument is a temporary of its own, which is assigned; of two arguments of one name the last has the name
unfoldable pub with_argument : Names ℕ → Argument → Frame → Frame
with_argument own a f =
    with_bound (place_of (get own a.name)) (bound.Temp (length f.temps) a.ty) (with_stored (place_of (get own a.name)) a.ty f)

-- arguments are the first temporaries
unfoldable pub with_arguments : Names ℕ → List Argument → Frame → Frame
with_arguments own [] f = f
with_arguments own (a ∷ as') f = with_arguments own as' (with_argument own a f)

-- ---- blocks

-- the names of lines
unfoldable pub names_of : List Argument → List Node → Names ℕ
names_of arguments nodes = all_added (map node_names nodes) (argument_names arguments [])

-- the scope of a body
abbrev pub body_scope : RawDesign → Kind → RawKind → BodySort → Names ℕ → Scope
body_scope design kind raw s own = record { design = design; kind = kind; raw = raw; own = own; sort = s }

-- the lines of a block
unfoldable pub block_body : Scope → ℕ → List Node → Counted TypedBody
block_body scope b nodes =
    lines scope nodes (first_frame (length scope.own)) >>= (λ f. pure (typed.Block b f.out f.temps))

-- where a body's one expression stands
abbrev pub lone_site : Scope → ℕ → Site
lone_site scope line = record { scope = scope; bounds = []; line = line; inside_index = false }

-- the body of a lambda
abbrev pub lambda_done : ℕ → Reference → Ex → TypedBody
lambda_done b to e = typed.Block b (st.Set to.part e ∷ []) []

-- a lambda assigns an expression of the type of its target
unfoldable pub lambda_to : Scope → ℕ → ℕ → Reference → Operand → Counted TypedBody
lambda_to scope b line to x =
    if may_write scope.sort to
    then fitted line (type_of to) x >>= (λ e. node >> pure (lambda_done b to e))
    else fail (NotAllowedHere line)

-- `a //= lambda: e`
unfoldable pub lambda_body : Scope → ℕ → ℕ → Reference → Expr → Counted TypedBody
lambda_body scope b line to e = operand (meaning e) (lone_site scope line) >>= (λ x. lambda_to scope b line to x)

-- ---- methods

-- a condition that has a width by itself
unfoldable pub guard_of : ℕ → ℕ → Operand → Counted TypedBody
guard_of m line x =
    lift (bits_in line x) >>= (λ e. condition line e.expression e.ty >>= (λ c. pure (typed.Guard m c)))

-- the condition of a method's `rdy`
unfoldable pub guard_body : Scope → ℕ → ℕ → Expr → Counted TypedBody
guard_body scope m line e = operand (meaning e) (lone_site scope line) >>= (λ x. guard_of m line x)

-- the last line, if it is a `return`: its line and its expression
pub record Returned : Type 0 where
  pub line : ℕ
  pub expression : Expr

-- the `return` that a line is
abbrev pub return_in : ℕ → Stmt-F Stmt → Option Returned
return_in line (Stmt-F.Return e) = Some (record { line = line; expression = e })
return_in line _ = None

-- the `return` that the last line is
abbrev pub last_return : List Node → Option Returned
last_return [] = None
last_return (n ∷ []) = return_in (out-Node n).line (out-Stmt (out-Node n).stmt)
last_return (n ∷ m ∷ ns) = last_return (m ∷ ns)

-- the lines before a last `return`
abbrev pub lines_before : Option Returned → List Node → List Node
lines_before (Some r) nodes = take (length nodes - 1) nodes
lines_before None nodes = nodes

-- a body and an answer
abbrev pub method_done : ℕ → Frame → Option Ex → TypedBody
method_done m f answer = typed.Method m f.out f.temps answer

-- an answer of the result's type
unfoldable pub answered : Scope → ℕ → ℕ → ValueType → Expr → Frame → Counted TypedBody
answered scope m line ty e f =
    right_value scope line (meaning e) f >>= (λ p. fitted line ty p.1 >>= (λ x. pure (method_done m p.0 (Some x))))

-- a `return` stands exactly where there is a result
abbrev pub answer_by : Scope → ℕ → ℕ → Option ValueType → Option Returned → Frame → Counted TypedBody
answer_by scope m line None None f = pure (method_done m f None)
answer_by scope m line None (Some r) f = fail (NotAllowedHere r.line)
answer_by scope m line (Some ty) None f = fail (NotAllowedHere line)
answer_by scope m line (Some ty) (Some r) f = answered scope m r.line ty r.expression f

-- a `return` stands exactly where there is a result
unfoldable pub answer_of : Scope → ℕ → ℕ → Option ValueType → Option Returned → Frame → Counted TypedBody
answer_of = answer_by

-- the lines of a method, then its answer
unfoldable pub method_lines : Scope → ℕ → ℕ → MethodTypes → List Node → Frame → Counted TypedBody
method_lines scope m line types nodes f =
    lines scope (lines_before (last_return nodes) nodes) f >>= (λ g. answer_of scope m line types.result (last_return nodes) g)

-- a method
unfoldable pub method_body : Scope → ℕ → ℕ → MethodTypes → List Node → Counted TypedBody
method_body scope m line types nodes =
    method_lines scope m line types nodes (with_arguments scope.own types.arguments (first_frame (length scope.own)))

-- ---- all bodies

-- the lines of a block
abbrev pub block_lines : RawDesign → Kind → RawKind → ℕ → List Node → Counted TypedBody
block_lines design kind raw b nodes =
    block_body (body_scope design kind raw (sort_of_block (slice_get kind.blocks b)) (names_of [] nodes)) b nodes

-- a method of these types
abbrev pub typed_method : RawDesign → Kind → RawKind → ℕ → ℕ → MethodTypes → List Node → Counted TypedBody
typed_method design kind raw m line types nodes =
    method_body (body_scope design kind raw sort.Method (names_of types.arguments nodes)) m line types nodes

-- a method that is there
abbrev pub method_if : RawDesign → Kind → RawKind → ℕ → ℕ → Option MethodTypes → List Node → Counted TypedBody
method_if design kind raw m line (Some types) nodes = typed_method design kind raw m line types nodes
method_if design kind raw m line None nodes = fail (NotAllowedHere line)

-- lines, by what they belong to
abbrev pub statements_by : RawDesign → Kind → RawKind → BodyPlace → ℕ → List Node → Counted TypedBody
statements_by design kind raw (place.Block b) line nodes = block_lines design kind raw b nodes
statements_by design kind raw (place.Method m) line nodes = method_if design kind raw m line (slice_get raw.methods m) nodes
statements_by design kind raw (place.Guard m) line nodes = fail (NotAllowedHere line)

-- the number of a block, method or guard
abbrev pub number_of : BodyPlace → ℕ
number_of (place.Block b) = b
number_of (place.Method m) = m
number_of (place.Guard m) = m

-- a body, by what it says
abbrev pub body_by : RawDesign → Kind → RawKind → RawBody → Code → Counted TypedBody
body_by design kind raw b (code.Statements nodes) = statements_by design kind raw b.place b.line nodes
body_by design kind raw b (code.Guard e) = guard_body (body_scope design kind raw sort.Method []) (number_of b.place) b.line e
body_by design kind raw b (code.Lambda to e) =
    lambda_body (body_scope design kind raw sort.Update []) (number_of b.place) b.line to e

-- a body; faults of length name its line
unfoldable pub whole_body : RawDesign → Kind → RawKind → RawBody → Counted TypedBody
whole_body design kind raw b = λ m. body_by design kind raw b b.code (record m { line = b.line })
