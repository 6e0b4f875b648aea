-- Assignments: the right side before the target, and then the statement itself.
use Rattle.std.specs.Prelude.{ℕ, ◌==◌, Bool, false, ◌&&◌, if◌then◌else◌, List, length, slice_get, slice_set, Option, Some, None, Ok, Err}
use Rattle.pm_design.specs.declared.body.Ex.{Ex}
use Rattle.pm_design.specs.declared.body.St.TheVariants as st
use Rattle.pm_syn.specs.declared.expression.Expr.{Expr, Expr-F, out-Expr}
use Rattle.pm_syn.specs.declared.statement.AssignOp.{AssignOp}
use Rattle.pm_syn.specs.declared.statement.AssignOp.TheVariants as assign
use Rattle.pm_syn.specs.declared.expression.Arg.{Arg}
use Rattle.pm_values.specs.declared.reference.ValueType.{ValueType}
use Rattle.pm_values.specs.Tables.{get}
use Rattle.pm_typing.specs.declared.fault.TypeFault.TheVariants.{WidthMismatch, MaybeUnbound, NotAllowedHere}
use Rattle.pm_typing.specs.declared.frame.Bound.{Bound}
use Rattle.pm_typing.specs.declared.frame.Bound.TheVariants as bound
use Rattle.pm_typing.specs.declared.frame.Frame.{Frame}
use Rattle.pm_typing.specs.declared.frame.Stored.{Stored}
use Rattle.pm_typing.specs.declared.operand.Operand.{Operand}
use Rattle.pm_typing.specs.declared.operand.Operand.TheVariants as operands
use Rattle.pm_typing.specs.Counted.{Checked, Counted, ◌>>=◌, pure, fail, lift}
use Rattle.pm_typing.specs.Expressions.{Meaning, meaning}
use Rattle.pm_typing.specs.Names.{most_items}
use Rattle.pm_typing.specs.Operands.{value_of, fitted, same_type, state_type}
use Rattle.pm_typing.specs.Sites.{Scope, Site}
use Rattle.pm_typing.specs.Things as things
use Rattle.pm_typing.specs.Things.{Thing, Right}
use Rattle.pm_types.specs.declared.effects.Acted.{Acted}
use Rattle.pm_types.specs.declared.targets.Target.{Target}
use Rattle.pm_types.specs.Effects.{may_change, acted, answer_type, statement_of, put, with_temp, kept}
use Rattle.pm_types.specs.Targets.{target_of, target_type, suits, set_statement}

-- what a statement, or several, do with a body
abbrev pub Move : Type 0
Move = Frame → Counted Frame

-- where the expressions of a statement stand
abbrev pub here : Scope → ℕ → Frame → Site
here scope line f = record { scope = scope; bounds = f.bounds; line = line; inside_index = false }

-- ---- right sides

-- the value of an act, which is kept in a new temporary
unfoldable pub act_value : ℕ → Acted → Frame → Counted (Frame × Operand)
act_value line a f = lift (answer_type line a.answer) >>= (λ ty. kept a.act ty f)

-- the value of a right side: what a call answers is kept in a new temporary
abbrev pub value_by : Scope → ℕ → Right → Frame → Counted (Frame × Operand)
value_by scope line (things.plain t) f = value_of scope line t >>= (λ x. pure (f, x))
value_by scope line (things.effect e) f = acted scope line e >>= (λ a. act_value line a f)

-- the value of a right side
unfoldable pub value_in : Scope → ℕ → Right → Frame → Counted (Frame × Operand)
value_in = value_by

-- the value of an expression that is a whole right side
unfoldable pub right_value : Scope → ℕ → Meaning → Frame → Counted (Frame × Operand)
right_value scope line e f = e.right (here scope line f) >>= (λ r. value_in scope line r f)

-- ---- signals

-- an assignment of an expression
unfoldable pub set_fitted : ℕ → AssignOp → Scope → Target → Ex → Move
set_fitted line o scope t e f = if suits o scope.sort t then put (set_statement t e) f else fail (NotAllowedHere line)

-- an assignment of a value
unfoldable pub set_to : ℕ → AssignOp → Scope → Target → Operand → Move
set_to line o scope t x f = fitted line (target_type t) x >>= (λ e. set_fitted line o scope t e f)

-- an assignment to a thing
unfoldable pub set_thing : ℕ → AssignOp → Scope → Thing → Operand → Move
set_thing line o scope t x f = lift (target_of scope.sort line t) >>= (λ to. set_to line o scope to x f)

-- the target, and then the assignment
unfoldable pub set_target : ℕ → AssignOp → Scope → Meaning → Operand → Move
set_target line o scope to x f = to.thing (here scope line f) >>= (λ t. set_thing line o scope t x f)

-- `x @= e` and `x <<= e`
unfoldable pub set : ℕ → AssignOp → Scope → Meaning → Meaning → Move
set line o scope to e f = right_value scope line e f >>= (λ p. set_target line o scope to p.1 p.0)

-- ---- states of a number

-- an assignment of a value
unfoldable pub number_to : ℕ → Scope → ℕ → Operand → Move
number_to line scope k x f = fitted line (state_type scope k) x >>= (λ e. put (st.SetNumber k e) f)

-- a number, where states may be changed
abbrev pub may_set_number : Scope → ℕ → Bool
may_set_number scope k = most_items scope k == 0 && may_change scope.sort

-- a number, where states may be changed
abbrev pub number_at : ℕ → Scope → Thing → Operand → Move
number_at line scope (things.state k) x f =
    if may_set_number scope k then number_to line scope k x f else fail (NotAllowedHere line)
number_at line scope _ x f = fail (NotAllowedHere line)

-- an assignment to a number
unfoldable pub number_set : ℕ → Scope → Thing → Operand → Move
number_set = number_at

-- the target, and then the assignment
unfoldable pub number_target : ℕ → Scope → Meaning → Operand → Move
number_target line scope to x f = to.thing (here scope line f) >>= (λ t. number_set line scope t x f)

-- `s.name = e`
unfoldable pub set_number : ℕ → Scope → Meaning → Meaning → Move
set_number line scope to e f = right_value scope line e f >>= (λ p. number_target line scope to p.1 p.0)

-- ---- temporaries

-- the temporary of a name
abbrev pub flat : {A : Type 0} → Option (Option A) → Option A
flat (Some a) = a
flat None = None

-- the temporary of the name at a place
unfoldable pub stored_at : ℕ → Frame → Option Stored
stored_at k f = flat (slice_get f.stored k)

-- the name at a place has this temporary
abbrev pub stored_put : ℕ → Stored → Frame → Frame
stored_put k t f = record f { stored = slice_set f.stored k (Some t) }

-- a new temporary for the name at a place
unfoldable pub with_stored : ℕ → ValueType → Frame → Frame
with_stored k ty f = stored_put k (record { number = length f.temps; ty = ty }) (with_temp ty.width f)

-- a new temporary for the name at a place, and its number
abbrev pub store_new : ℕ → ValueType → Frame → Checked (Frame × ℕ)
store_new k ty f = Ok (with_stored k ty f, length f.temps)

-- the name at a place stands for this
unfoldable pub with_bound : ℕ → Bound → Frame → Frame
with_bound k b f = record f { bounds = slice_set f.bounds k b }

-- the temporary that a name has
abbrev pub declared_if : ℕ → ℕ → ValueType → Option Stored → Frame → Checked (Frame × ℕ)
declared_if line k ty (Some t) f = if same_type t.ty ty then Ok (f, t.number) else Err (WidthMismatch line)
declared_if line k ty None f = store_new k ty f

-- the temporary of a name of a type, which its first assignment makes
unfoldable pub declared_as : ℕ → ℕ → ValueType → Frame → Checked (Frame × ℕ)
declared_as line k ty f = declared_if line k ty (stored_at k f) f

-- the type that a value has by itself
abbrev pub type_by_itself : ℕ → Operand → Checked ValueType
type_by_itself line (operands.Int n) = Err (WidthMismatch line)
type_by_itself line (operands.Bits e ty) = Ok ty

-- the type of a name: that of its temporary, or else of its first value
abbrev pub name_type_by : ℕ → Option Stored → Operand → Checked ValueType
name_type_by line (Some t) x = Ok t.ty
name_type_by line None x = type_by_itself line x

-- the type of a name
unfoldable pub name_type : ℕ → ℕ → Frame → Operand → Checked ValueType
name_type line k f x = name_type_by line (stored_at k f) x

-- the name stands for its temporary, which is assigned
unfoldable pub temp_put : ℕ → ValueType → ℕ → Ex → Move
temp_put k ty t e f = put (st.SetTemp t e) (with_bound k (bound.Temp t ty) f)

-- an expression is assigned to a name
unfoldable pub temp_fitted : ℕ → ℕ → ValueType → Ex → Move
temp_fitted line k ty e f = lift (declared_as line k ty f) >>= (λ p. temp_put k ty p.1 e p.0)

-- a value of a type is assigned to a name
unfoldable pub temp_typed : ℕ → ℕ → ValueType → Operand → Move
temp_typed line k ty x f = fitted line ty x >>= (λ e. temp_fitted line k ty e f)

-- a value is assigned to a name
unfoldable pub temp_to : ℕ → ℕ → Operand → Move
temp_to line k x f = lift (name_type line k f x) >>= (λ ty. temp_typed line k ty x f)

-- the answer of an act goes to the temporary of a name
unfoldable pub act_put : ℕ → Acted → ValueType → ℕ → Move
act_put k a ty t f = put (statement_of a.act (Some t)) (with_bound k (bound.Temp t ty) f)

-- the answer of an act of a type is assigned to a name
unfoldable pub act_typed : ℕ → ℕ → Acted → ValueType → Move
act_typed line k a ty f = lift (declared_as line k ty f) >>= (λ p. act_put k a ty p.1 p.0)

-- the answer of an act is assigned to a name
unfoldable pub act_to : ℕ → ℕ → Acted → Move
act_to line k a f = lift (answer_type line a.answer) >>= (λ ty. act_typed line k a ty f)

-- a right side is assigned to a name
abbrev pub temp_by : Scope → ℕ → ℕ → Right → Move
temp_by scope line k (things.plain t) f = value_of scope line t >>= (λ x. temp_to line k x f)
temp_by scope line k (things.effect e) f = acted scope line e >>= (λ a. act_to line k a f)

-- a right side is assigned to a name
unfoldable pub temp_right : Scope → ℕ → ℕ → Right → Move
temp_right = temp_by

-- an expression is assigned to the name at a place
unfoldable pub temporary : Scope → ℕ → ℕ → Meaning → Move
temporary scope line k e f = e.right (here scope line f) >>= (λ r. temp_right scope line k r f)

-- `name = e`, by the place of the name
abbrev pub place_set : Scope → ℕ → Option ℕ → Meaning → Move
place_set scope line (Some k) e f = temporary scope line k e f
place_set scope line None e f = fail (MaybeUnbound line)

-- `name = e`
abbrev pub name_set : Scope → ℕ → List ℕ → Meaning → Move
name_set scope line name e f = place_set scope line (get scope.own name) e f

-- `name = e` or `s.name = e`
abbrev pub plain_at : Scope → ℕ → Expr-F Expr Arg → Meaning → Meaning → Move
plain_at scope line (Expr-F.Name name) to e f = name_set scope line name e f
plain_at scope line _ to e f = set_number line scope to e f

-- `a = e`
unfoldable pub plain_set : Scope → ℕ → Expr → Expr → Move
plain_set scope line to e = plain_at scope line (out-Expr to) (meaning to) (meaning e)

-- an assignment
abbrev pub assigned_at : Scope → ℕ → AssignOp → Expr → Expr → Move
assigned_at scope line assign.Plain to e f = plain_set scope line to e f
assigned_at scope line assign.Now to e f = set line assign.Now scope (meaning to) (meaning e) f
assigned_at scope line assign.Next to e f = set line assign.Next scope (meaning to) (meaning e) f
assigned_at scope line assign.Join to e f = fail (NotAllowedHere line)

-- an assignment
unfoldable pub assigned : Scope → ℕ → AssignOp → Expr → Expr → Move
assigned = assigned_at

-- ---- calls alone

-- a call that changes states
abbrev pub alone_at : Scope → ℕ → Right → Move
alone_at scope line (things.effect e) f = acted scope line e >>= (λ a. put (statement_of a.act None) f)
alone_at scope line (things.plain t) f = fail (NotAllowedHere line)

-- a call that changes states
unfoldable pub alone_right : Scope → ℕ → Right → Move
alone_right = alone_at

-- a call alone
unfoldable pub alone : Scope → ℕ → Expr → Move
alone scope line e f = (meaning e).right (here scope line f) >>= (λ r. alone_right scope line r f)
