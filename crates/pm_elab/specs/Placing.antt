-- How names of `construct` and attributes take values. What is new in a value becomes part of the component.
use Rattle.std.specs.Prelude.{ℕ, ◌+◌, if◌then◌else◌, nat_le, List, [], ◌∷◌, ◌++◌, length, slice_get, codes, decimal, Option, Some, None, is_some, Ok, Err}
use Rattle.std.specs.Option.{option_map}
use Rattle.std.specs.Str.{bytes_eq}
use Rattle.pm_design.specs.declared.connection.Callee.TheVariants as callee
use Rattle.pm_design.specs.declared.design.Child.{Child}
use Rattle.pm_design.specs.declared.signal.Role.{Role}
use Rattle.pm_design.specs.declared.signal.Signal.{Signal}
use Rattle.pm_syn.specs.declared.expression.Arg.{Arg}
use Rattle.pm_syn.specs.declared.expression.Expr.{Expr, Expr-F, out-Expr}
use Rattle.pm_values.specs.declared.fault.BuildFault.TheVariants.{WrongKind, SameName, TooManyInstances}
use Rattle.pm_values.specs.declared.reference.CallerTypes.{CallerTypes}
use Rattle.pm_values.specs.declared.reference.Form.TheVariants.{Whole}
use Rattle.pm_values.specs.declared.reference.Reference.{Reference}
use Rattle.pm_values.specs.declared.reference.ValueType.{ValueType}
use Rattle.pm_values.specs.declared.value.Member.{Member, Member-F, fold-Member}
use Rattle.pm_values.specs.declared.value.New.{New}
use Rattle.pm_values.specs.declared.value.New.TheVariants as new
use Rattle.pm_values.specs.declared.value.Taken.TheVariants as taken
use Rattle.pm_values.specs.declared.value.Value.{Value, Value-F, fold-Value}
use Rattle.pm_values.specs.declared.value.Value.TheVariants as value
use Rattle.pm_values.specs.Tables.{get, put}
use Rattle.pm_elab.specs.declared.class.ConstructedClass.{ConstructedClass}
use Rattle.pm_elab.specs.declared.class.ConstructedClass.TheVariants as class
use Rattle.pm_elab.specs.declared.elaboration.MadeKind.{MadeKind}
use Rattle.pm_elab.specs.declared.elaboration.TheConstants.{MAX_INSTANCES}
use Rattle.pm_elab.specs.declared.frame.Frame.{Frame}
use Rattle.pm_elab.specs.declared.target.Target.{Target}
use Rattle.pm_elab.specs.declared.target.Target.TheVariants as target
use Rattle.pm_elab.specs.Elab.{Checked, and_then}
use Rattle.pm_elab.specs.Values.{is_settled, is_attribute, is_member}

-- ---- names of `construct`

-- the frame with other names
abbrev pub with_local : Frame → List ℕ → Value → Frame
with_local f name v = record f {
  raw = record f.raw { locals = put f.raw.locals name (record { value = v; reassigned = is_some (get f.raw.locals name) }) };
}

-- a name of `construct` stands for a value from now on
unfoldable pub local_put : List ℕ → Value → Frame → Frame
local_put name v f = with_local f name v

-- ---- new things

-- the frame with an attribute
abbrev pub with_attribute : Frame → List ℕ → Value → Frame
with_attribute f name v = record f { raw = record f.raw { attributes = put f.raw.attributes name v } }

-- an attribute stands for a value from now on
unfoldable pub attribute_set : List ℕ → Value → Frame → Frame
attribute_set name v f = with_attribute f name v

-- the name of an element
unfoldable pub element_name : List ℕ → ℕ → List ℕ
element_name name k = name ++ (codes "[" ++ (decimal k ++ codes "]"))

-- the name of a member
unfoldable pub member_name : List ℕ → List ℕ → List ℕ
member_name name member = name ++ (codes "." ++ member)

-- a whole signal of the component
abbrev pub whole_signal : ℕ → Role → ValueType → Reference
whole_signal k role t = record {
  part = record { owner = 0; signal = k; lo = 0; width = t.width };
  shape = t.shape;
  role = role;
  form = Whole;
}

-- a new signal is the last of the component
abbrev pub with_signal : Frame → Signal → Frame
with_signal f s = record f { kind = record f.kind { signals = f.kind.signals ++ s ∷ [] } }

-- a new signal takes its name
unfoldable pub place_signal : Role → ValueType → List ℕ → Frame → Frame × Value
place_signal role t name f = (
  with_signal f (record { name = name; role = role; width = t.width; shape = t.shape }),
  value.Taken (taken.Signal (whole_signal (length f.kind.signals) role t)),
)

-- how many instances a component of a kind has, with itself
abbrev pub instances_of : Option MadeKind → ℕ
instances_of None = 0
instances_of (Some k) = k.kind.instances

-- how many instances a component of the kind of a number has
unfoldable pub instances_in : List MadeKind → ℕ → ℕ
instances_in kinds k = instances_of (slice_get kinds k)

-- a new child is the last of the component
abbrev pub with_child : Frame → Child → ℕ → Frame
with_child f child more = record f {
  kind = record f.kind { children = f.kind.children ++ child ∷ []; instances = f.kind.instances + more };
}

-- the component and all below it have at most so many instances
abbrev pub place_child_with : ℕ → ℕ → List ℕ → ℕ → Frame → Checked (Frame × Value)
place_child_with more kind name line f =
    if nat_le (f.kind.instances + more) MAX_INSTANCES
    then Ok (with_child f (record { name = name; kind = kind; line = line }) more, value.Taken (taken.Child (length f.kind.children)))
    else Err (TooManyInstances line)

-- a new child takes its name
unfoldable pub place_child : List MadeKind → ℕ → List ℕ → ℕ → Frame → Checked (Frame × Value)
place_child kinds kind name line f = place_child_with (instances_in kinds kind) kind name line f

-- the width of a type, if there is one
abbrev pub width_if : Option ValueType → Option ℕ
width_if t = option_map (λ ty. ty.width) t

-- a new caller port is the last of the component
abbrev pub with_caller : Frame → List ℕ → CallerTypes → Frame
with_caller f name types = record f {
  kind = record f.kind { callers = f.kind.callers ++ record { name = name; argument = width_if types.argument; result = width_if types.result } ∷ [] };
  raw = record f.raw { callers = f.raw.callers ++ types ∷ [] };
}

-- a new caller port takes its name
unfoldable pub place_caller : CallerTypes → List ℕ → Frame → Frame × Value
place_caller types name f = (with_caller f name types, value.Taken (taken.Method (callee.Port (length f.kind.callers))))

-- a new thing takes its name; a deque takes its name elsewhere
abbrev pub place_new_of : List MadeKind → New → List ℕ → ℕ → Frame → Checked (Frame × Value)
place_new_of kinds (new.Signal role t) name line f = Ok (place_signal role t name f)
place_new_of kinds (new.Child k) name line f = place_child kinds k name line f
place_new_of kinds (new.Caller types) name line f = Ok (place_caller types name f)
place_new_of kinds (new.Callee c) name line f = Ok (f, value.Taken (taken.Method c))
place_new_of kinds (new.Deque n) name line f = Err (WrongKind line)

-- a new thing takes its name
unfoldable pub place_new : List MadeKind → New → List ℕ → ℕ → Frame → Checked (Frame × Value)
place_new = place_new_of

-- ---- whole values

-- what a value does to a component that takes it under a name, and what it is from then on
abbrev pub Placing : Type 0
Placing = List MadeKind → List ℕ → ℕ → Frame → Checked (Frame × Value)

-- the same for a member of an interface, under the interface's name
abbrev pub MemberPlacing : Type 0
MemberPlacing = List MadeKind → List ℕ → ℕ → Frame → Checked (Frame × Member)

-- elements from the left, behind those that stand, each under the list's name with its number
unfoldable pub place_items : ℕ → List Value → List Placing → Placing
place_items k done [] kinds name line f = Ok (f, value.Items done)
place_items k done (p ∷ ps) kinds name line f =
    and_then (p kinds (element_name name k) line f) (λ r. place_items (k + 1) (done ++ r.1 ∷ []) ps kinds name line r.0)

-- members in order, behind those that stand, each under the interface's name with its own
unfoldable pub place_members : List Member → List MemberPlacing → Placing
place_members done [] kinds name line f = Ok (f, value.Interface done)
place_members done (p ∷ ps) kinds name line f =
    and_then (p kinds name line f) (λ r. place_members (done ++ r.1 ∷ []) ps kinds name line r.0)

-- a value that changes nothing
abbrev pub unplaced : Value → Placing
unplaced v kinds name line f = Ok (f, v)

-- what a value does to a component, by what its elements and members do
abbrev pub placing_of : Value-F Placing MemberPlacing → Placing
placing_of (Value-F.New n) = λ kinds. place_new kinds n
placing_of (Value-F.NewInterface ps) = place_members [] ps
placing_of (Value-F.Interface ps) = place_members [] ps
placing_of (Value-F.Items ps) = place_items 0 [] ps
placing_of (Value-F.Int n) = unplaced (value.Int n)
placing_of (Value-F.Type t) = unplaced (value.Type t)
placing_of (Value-F.Const w) = unplaced (value.Const w)
placing_of (Value-F.Class n) = unplaced (value.Class n)
placing_of Value-F.Own = unplaced value.Own
placing_of (Value-F.Taken t) = unplaced (value.Taken t)
placing_of (Value-F.Term t) = unplaced (value.Term t)
placing_of (Value-F.Rule t u) = unplaced (value.Rule t u)

-- a member takes its name
abbrev pub member_placing : Member-F Placing MemberPlacing → MemberPlacing
member_placing m kinds name line f =
    and_then (m.value kinds (member_name name m.name) line f) (λ r. Ok (r.0, record { name = m.name; value = r.1 }))

-- a component takes a value under a name
unfoldable pub place : Value → Placing
place = fold-Value Placing MemberPlacing placing_of member_placing

-- a component takes a member of an interface under the interface's name
unfoldable pub place_member : Member → MemberPlacing
place_member = fold-Member Placing MemberPlacing placing_of member_placing

-- ---- attributes

-- an attribute that isn't there yet takes a value
abbrev pub fresh_attribute : List MadeKind → List ℕ → Value → ℕ → Frame → Checked Frame
fresh_attribute kinds name v line f =
    if is_some (get f.raw.attributes name) then Err (SameName line)
    else and_then (place v kinds name line f) (λ r. Ok (attribute_set name r.1 r.0))

-- an attribute of a component takes a value; `s.clk` isn't to be named
unfoldable pub component_attribute : List MadeKind → List ℕ → Value → ℕ → Frame → Checked Frame
component_attribute kinds name v line f =
    if bytes_eq name (codes "clk") then Err (WrongKind line)
    else (if is_attribute v then fresh_attribute kinds name v line f else Err (WrongKind line))

-- a member of an interface takes a value
unfoldable pub interface_member : List ℕ → Value → ℕ → Frame → Checked Frame
interface_member name v line f =
    if is_member v then (if is_some (get f.raw.attributes name) then Err (SameName line) else Ok (attribute_set name v f))
    else Err (WrongKind line)

-- an attribute takes a value
abbrev pub attribute_put_in : ConstructedClass → List MadeKind → List ℕ → Value → ℕ → Frame → Checked Frame
attribute_put_in class.Component kinds name v line f = component_attribute kinds name v line f
attribute_put_in class.Interface kinds name v line f = interface_member name v line f

-- an attribute takes a value
unfoldable pub attribute_put : List MadeKind → List ℕ → Value → ℕ → Frame → Checked Frame
attribute_put kinds name v line f = attribute_put_in f.class kinds name v line f

-- ---- assignments

-- `s.name`
abbrev pub own_at : List ℕ → Expr-F Expr Arg → Target
own_at name (Expr-F.Name n) = if bytes_eq n (codes "s") then target.Attribute name else target.Other
own_at name _ = target.Other

-- `e.name`, where e is `s`
unfoldable pub own_target : List ℕ → Expr → Target
own_target name e = own_at name (out-Expr e)

-- what a left side assigns to
abbrev pub target_at : Expr-F Expr Arg → Target
target_at (Expr-F.Name n) = if bytes_eq n (codes "s") then target.Other else target.Local n
target_at (Expr-F.Attr e n) = own_target n e
target_at _ = target.Other

-- what a left side assigns to
unfoldable pub target_of : Expr → Target
target_of e = target_at (out-Expr e)

-- a name of `construct` takes a value in which nothing is new
unfoldable pub local_assigned : List ℕ → Value → ℕ → Frame → Checked Frame
local_assigned name v line f = if is_settled v then Ok (local_put name v f) else Err (WrongKind line)

-- a left side takes a value
abbrev pub assigned_to : Target → List MadeKind → Value → ℕ → Frame → Checked Frame
assigned_to (target.Local name) kinds v line f = local_assigned name v line f
assigned_to (target.Attribute name) kinds v line f = attribute_put kinds name v line f
assigned_to target.Other kinds v line f = Err (WrongKind line)

-- a left side takes a value
unfoldable pub assigned : Target → List MadeKind → Value → ℕ → Frame → Checked Frame
assigned = assigned_to
