-- Calls that change states.
use Rattle.std.specs.Prelude.{ℕ, ◌==◌, Bool, true, false, ◌||◌, not, nat_lt, if◌then◌else◌, List, [], ◌∷◌, ◌++◌, map, length, slice_get, Option, Some, None, Ok, Err}
use Rattle.std.specs.Option.{option_map}
use Rattle.pm_design.specs.declared.body.Ex.{Ex}
use Rattle.pm_design.specs.declared.body.Ex.TheVariants as ex
use Rattle.pm_design.specs.declared.body.St.{St}
use Rattle.pm_design.specs.declared.body.St.TheVariants as st
use Rattle.pm_design.specs.declared.body.Side.{Side}
use Rattle.pm_design.specs.declared.connection.Callee.{Callee}
use Rattle.pm_design.specs.declared.connection.Callee.TheVariants as callee
use Rattle.pm_elab.specs.declared.body.MethodTypes.{MethodTypes}
use Rattle.pm_elab.specs.declared.elaboration.RawKind.{RawKind}
use Rattle.pm_elab.specs.Views.{kind_of_child}
use Rattle.pm_values.specs.declared.reference.CallerTypes.{CallerTypes}
use Rattle.pm_values.specs.declared.reference.ValueType.{ValueType}
use Rattle.pm_typing.specs.declared.fault.TypeFault.TheVariants.{NotAllowedHere}
use Rattle.pm_typing.specs.declared.frame.Frame.{Frame}
use Rattle.pm_typing.specs.declared.operand.Change.{Change}
use Rattle.pm_typing.specs.declared.operand.Change.TheVariants as changes
use Rattle.pm_typing.specs.declared.operand.Effect.{Effect}
use Rattle.pm_typing.specs.declared.operand.Effected.{Effected}
use Rattle.pm_typing.specs.declared.operand.Effected.TheVariants as effected
use Rattle.pm_typing.specs.declared.operand.Operand.{Operand}
use Rattle.pm_typing.specs.declared.operand.Operand.TheVariants as operands
use Rattle.pm_typing.specs.declared.scope.BodySort.{BodySort}
use Rattle.pm_typing.specs.declared.scope.BodySort.TheVariants as sort
use Rattle.pm_typing.specs.Calls.{fitted_from}
use Rattle.pm_typing.specs.Counted.{Checked, Counted, ◌>>=◌, ◌>>◌, pure, fail, lift, node}
use Rattle.pm_typing.specs.Operands.{fitted, state_type}
use Rattle.pm_typing.specs.Sites.{Scope}
use Rattle.pm_types.specs.declared.effects.Act.{Act}
use Rattle.pm_types.specs.declared.effects.Act.TheVariants as act
use Rattle.pm_types.specs.declared.effects.Acted.{Acted}
use Rattle.pm_types.specs.declared.effects.CallTypes.{CallTypes}

-- `update_once` blocks and methods may change states
abbrev pub may_change : BodySort → Bool
may_change sort.Once = true
may_change sort.Method = true
may_change sort.Update = false
may_change sort.Edge = false

-- ---- types of calls

-- the types of a method's arguments and result
abbrev pub method_types : Option MethodTypes → Option CallTypes
method_types = option_map (λ m. record { arguments = map (λ a. a.ty) m.arguments; result = m.result })

-- the argument, if there is one
abbrev pub argument_list : Option ValueType → List ValueType
argument_list (Some ty) = ty ∷ []
argument_list None = []

-- the types of a caller port's argument and result
abbrev pub caller_types : Option CallerTypes → Option CallTypes
caller_types = option_map (λ c. record { arguments = argument_list c.argument; result = c.result })

-- the types of a method or a caller port of a kind, if it is there
abbrev pub method_of : Option RawKind → ℕ → Option CallTypes
method_of (Some raw) m = method_types (slice_get raw.methods m)
method_of None m = None

-- the types of a caller port of a kind, if it is there
abbrev pub port_of : Option RawKind → ℕ → Option CallTypes
port_of (Some raw) p = caller_types (slice_get raw.callers p)
port_of None p = None

-- the kind of a child
unfoldable pub child_kind : Scope → ℕ → Option RawKind
child_kind scope k = slice_get scope.design.kinds (kind_of_child scope.kind.children k)

-- the types of what is called
abbrev pub types_at : Scope → Callee → Option CallTypes
types_at scope (callee.Own m) = method_of (Some scope.raw) m
types_at scope (callee.Child k m) = method_of (child_kind scope k) m
types_at scope (callee.Port p) = port_of (Some scope.raw) p
types_at scope (callee.ChildPort k p) = port_of (child_kind scope k) p

-- the types of what is called
unfoldable pub call_types : Scope → Callee → Option CallTypes
call_types = types_at

-- ---- typed calls

-- values for the types, as many, which name no parameters
unfoldable pub arguments_for : ℕ → List ValueType → Bool → List Operand → Counted (List Ex)
arguments_for line tys named xs =
    if named || not (length xs == length tys) then fail (NotAllowedHere line) else fitted_from line [] tys xs

-- an act, where states may be changed
unfoldable pub allowed : ℕ → BodySort → Acted → Checked Acted
allowed line s a = if may_change s then Ok a else Err (NotAllowedHere line)

-- a call of a method of these types
unfoldable pub method_act : Scope → ℕ → Callee → CallTypes → Bool → List Operand → Counted Acted
method_act scope line c types named xs =
    arguments_for line types.arguments named xs >>= (λ es. lift (allowed line scope.sort (record { act = act.Call c es; answer = types.result })))

-- a call of a method
abbrev pub method_act_if : Scope → ℕ → Callee → Option CallTypes → Bool → List Operand → Counted Acted
method_act_if scope line c (Some types) named xs = method_act scope line c types named xs
method_act_if scope line c None named xs = fail (NotAllowedHere line)

-- the item that is added to a deque
unfoldable pub pushed : Scope → ℕ → ℕ → Side → Operand → Counted Acted
pushed scope line k side x =
    fitted line (state_type scope k) x
    >>= (λ e. lift (allowed line scope.sort (record { act = act.Push k side e; answer = None })))

-- an item is added to a deque
abbrev pub push_at : Scope → ℕ → ℕ → Side → List Operand → Counted Acted
push_at scope line k side (x ∷ []) = pushed scope line k side x
push_at scope line k side _ = fail (NotAllowedHere line)

-- an item is added to a deque
unfoldable pub push_act : Scope → ℕ → ℕ → Side → Bool → List Operand → Counted Acted
push_act scope line k side named xs = if named then fail (NotAllowedHere line) else push_at scope line k side xs

-- a deque is changed without a value
unfoldable pub bare_act : Scope → ℕ → Acted → Bool → ℕ → Checked Acted
bare_act scope line a named count = if named || nat_lt 0 count then Err (NotAllowedHere line) else allowed line scope.sort a

-- a change of a deque
abbrev pub deque_act : Scope → ℕ → ℕ → Change → Bool → List Operand → Counted Acted
deque_act scope line k (changes.Push side) named xs = push_act scope line k side named xs
deque_act scope line k (changes.Pop side) named xs =
    lift (bare_act scope line (record { act = act.Pop k side; answer = Some (state_type scope k) }) named (length xs))
deque_act scope line k changes.Clear named xs =
    lift (bare_act scope line (record { act = act.Clear k; answer = None }) named (length xs))

-- a call of a method
abbrev pub method_called : Scope → ℕ → Callee → Bool → List Operand → Counted Acted
method_called scope line c named xs = method_act_if scope line c (call_types scope c) named xs

-- what a call does, by what it calls
abbrev pub acted_at : Scope → ℕ → Effected → Bool → List Operand → Counted Acted
acted_at scope line (effected.Method c) named xs = method_called scope line c named xs
acted_at scope line (effected.Deque k c) named xs = deque_act scope line k c named xs

-- what a call does
unfoldable pub acted : Scope → ℕ → Effect → Counted Acted
acted scope line e = acted_at scope line e.what e.named e.arguments

-- ---- statements

-- the statement of an act, whose answer goes to the temporary
abbrev pub statement_at : Act → Option ℕ → St
statement_at (act.Call c es) t = st.Call c es t
statement_at (act.Push k side e) t = st.Push k side e
statement_at (act.Pop k side) t = st.Pop k side t
statement_at (act.Clear k) t = st.Clear k

-- the statement of an act, whose answer goes to the temporary
unfoldable pub statement_of : Act → Option ℕ → St
statement_of = statement_at

-- one statement more
abbrev pub with_statement : St → Frame → Frame
with_statement s f = record f { out = f.out ++ s ∷ [] }

-- one statement more, which is a node
unfoldable pub put : St → Frame → Counted Frame
put s f = node >> pure (with_statement s f)

-- one temporary more
unfoldable pub with_temp : ℕ → Frame → Frame
with_temp width f = record f { temps = f.temps ++ width ∷ [] }

-- the answer that there is
abbrev pub answer_type : ℕ → Option ValueType → Checked ValueType
answer_type line (Some ty) = Ok ty
answer_type line None = Err (NotAllowedHere line)

-- an act whose answer goes to a new temporary, which is the value
unfoldable pub kept : Act → ValueType → Frame → Counted (Frame × Operand)
kept a ty f =
    put (statement_of a (Some (length f.temps))) (with_temp ty.width f)
    >>= (λ g. node >> pure (g, operands.Bits (ex.Temp (length f.temps) 0 ty.width) ty))
