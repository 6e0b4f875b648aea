-- What names and attributes are in a body.
use Rattle.std.specs.Prelude.{ℕ, ◌+◌, ◌==◌, pos, ◌&&◌, nat_lt, if◌then◌else◌, List, [], ◌∷◌, slice_get, codes, Option, Some, None, Ok, Err}
use Rattle.std.specs.Str.{bytes_eq}
use Rattle.pm_bits.specs.declared.operator.Fold.TheVariants as fold
use Rattle.pm_design.specs.declared.body.Side.TheVariants as side
use Rattle.pm_design.specs.declared.connection.Callee.{Callee}
use Rattle.pm_design.specs.declared.connection.Callee.TheVariants as callee
use Rattle.pm_design.specs.declared.design.State.{State}
use Rattle.pm_values.specs.declared.reference.Reference.{Reference}
use Rattle.pm_values.specs.declared.value.Member.{Member}
use Rattle.pm_values.specs.declared.value.Taken.{Taken}
use Rattle.pm_values.specs.declared.value.Taken.TheVariants as taken
use Rattle.pm_values.specs.declared.value.Value.{Value, Value-F, out-Value}
use Rattle.pm_values.specs.Tables.{get}
use Rattle.pm_elab.specs.declared.elaboration.RawKind.{RawKind}
use Rattle.pm_elab.specs.declared.frame.Local.{Local}
use Rattle.pm_elab.specs.Attributes.{member_named}
use Rattle.pm_elab.specs.Sites.{named_width}
use Rattle.pm_elab.specs.Values.{is_plain, bits_of}
use Rattle.pm_elab.specs.Views.{is_port, kind_of_child}
use Rattle.pm_typing.specs.declared.fault.TypeFault.TheVariants.{MaybeUnbound, NotAllowedHere}
use Rattle.pm_typing.specs.declared.frame.Bound.{Bound}
use Rattle.pm_typing.specs.declared.frame.Bound.TheVariants as bound
use Rattle.pm_typing.specs.declared.operand.Change.{Change}
use Rattle.pm_typing.specs.declared.operand.Change.TheVariants as changes
use Rattle.pm_typing.specs.declared.scope.BodySort.{BodySort}
use Rattle.pm_typing.specs.declared.scope.BodySort.TheVariants as sort
use Rattle.pm_typing.specs.declared.thing.BodyFunction.{BodyFunction}
use Rattle.pm_typing.specs.declared.thing.BodyFunction.TheVariants as functions
use Rattle.pm_typing.specs.Counted.{Checked}
use Rattle.pm_typing.specs.Sites.{Scope, Site}
use Rattle.pm_typing.specs.Things as things
use Rattle.pm_typing.specs.Things.{Thing}

-- ---- values that a name, an attribute or an element is

-- what an attribute of the component has taken
abbrev pub own_taken : ℕ → Taken → Checked Thing
own_taken line (taken.Signal r) = Ok (things.signal r)
own_taken line (taken.Child k) = Ok (things.child k)
own_taken line (taken.State k) = Ok (things.state k)
own_taken line (taken.Method c) = Ok (things.method c)
own_taken line _ = Err (NotAllowedHere line)

-- of a child's signals its parent sees the ports
abbrev pub port_of_child : ℕ → ℕ → Reference → Checked Thing
port_of_child line k r =
    if r.part.owner == 0 && is_port r.role
    then Ok (things.signal (record r { part = record r.part { owner = k + 1 } }))
    else Err (NotAllowedHere line)

-- a method or caller port of a child
abbrev pub method_of_child : ℕ → ℕ → Callee → Checked Thing
method_of_child line k (callee.Own m) = Ok (things.method (callee.Child k m))
method_of_child line k (callee.Port p) = Ok (things.method (callee.ChildPort k p))
method_of_child line k _ = Err (NotAllowedHere line)

-- what an attribute of a child has taken: ports and methods alone
abbrev pub child_taken : ℕ → ℕ → Taken → Checked Thing
child_taken line k (taken.Signal r) = port_of_child line k r
child_taken line k (taken.Method c) = method_of_child line k c
child_taken line k _ = Err (NotAllowedHere line)

-- what something of the component, or of its child, has taken
abbrev pub taken_by : ℕ → Option ℕ → Taken → Checked Thing
taken_by line None t = own_taken line t
taken_by line (Some k) t = child_taken line k t

-- a plain value, of the component alone
abbrev pub plain_by : ℕ → Option ℕ → Thing → Checked Thing
plain_by line None t = Ok t
plain_by line (Some k) t = Err (NotAllowedHere line)

-- a value as the component, or its child, has it
abbrev pub seen_at : ℕ → Option ℕ → Value-F Value Member → Checked Thing
seen_at line whose (Value-F.Int n) = plain_by line whose (things.integer n)
seen_at line whose (Value-F.Type t) = plain_by line whose (things.of_type t)
seen_at line whose (Value-F.Const w) = plain_by line whose (things.constant w)
seen_at line whose (Value-F.Class n) = plain_by line whose things.class
seen_at line whose (Value-F.Items vs) = Ok (things.items whose vs)
seen_at line whose (Value-F.Interface ms) = Ok (things.members whose ms)
seen_at line whose (Value-F.Taken t) = taken_by line whose t
seen_at line whose _ = Err (NotAllowedHere line)

-- a value as the component, or its child, has it
unfoldable pub seen : ℕ → Option ℕ → Value → Checked Thing
seen line whose v = seen_at line whose (out-Value v)

-- a value that a name stands for: a reference, and a list that has one, mean nothing in a body
unfoldable pub meant : ℕ → Value → Checked Thing
meant line v = if is_plain v then seen line None v else Err (MaybeUnbound line)

-- ---- names

-- the functions of integers and lists, and their names
abbrev pub other_functions : List (List ℕ × BodyFunction)
other_functions =
    (codes "clog2", functions.CeilingLog) ∷ (codes "len", functions.Length) ∷ (codes "mk_bits", functions.MakeBits) ∷ []

-- the reductions and those
abbrev pub later_functions : List (List ℕ × BodyFunction)
later_functions =
    (codes "reduce_and", functions.Reduce fold.All)
    ∷ (codes "reduce_or", functions.Reduce fold.Any)
    ∷ (codes "reduce_xor", functions.Reduce fold.Odd)
    ∷ other_functions

-- the functions that bodies may call, and their names
abbrev pub functions_of_bodies : List (List ℕ × BodyFunction)
functions_of_bodies =
    (codes "concat", functions.Concat)
    ∷ (codes "zext", functions.Zext)
    ∷ (codes "sext", functions.Sext)
    ∷ (codes "trunc", functions.Trunc)
    ∷ later_functions

-- the function of a name in a list
abbrev pub function_in : List (List ℕ × BodyFunction) → List ℕ → Option BodyFunction
function_in [] name = None
function_in (f ∷ fs) name = if bytes_eq name f.0 then Some f.1 else function_in fs name

-- the function of a name
unfoldable pub body_function : List ℕ → Option BodyFunction
body_function = function_in functions_of_bodies

-- a type by its width
abbrev pub width_meant : ℕ → Option ℕ → Checked Thing
width_meant line (Some width) = Ok (things.of_type (bits_of width))
width_meant line None = Err (MaybeUnbound line)

-- a function, or else a type by its name
abbrev pub function_meant : ℕ → Option BodyFunction → List ℕ → Checked Thing
function_meant line (Some f) name = Ok (things.function f)
function_meant line None name = width_meant line (named_width name)

-- what the language itself gives a name
unfoldable pub built_in : ℕ → List ℕ → Checked Thing
built_in line name = function_meant line (body_function name) name

-- a value of the file, or else what the language gives the name
abbrev pub file_meant : ℕ → Option Value → List ℕ → Checked Thing
file_meant line (Some v) name = meant line v
file_meant line None name = built_in line name

-- a name of the file; `s` is the component
unfoldable pub file_named : Scope → ℕ → List ℕ → Checked Thing
file_named scope line name =
    if bytes_eq name (codes "s") then Ok things.own else file_meant line (get scope.design.names name) name

-- a value of `construct`, or else a name of the file
abbrev pub local_meant : Scope → ℕ → Option Local → List ℕ → Checked Thing
local_meant scope line (Some l) name = meant line l.value
local_meant scope line None name = file_named scope line name

-- a name of `construct`, or else one of the file
abbrev pub local_named : Scope → ℕ → List ℕ → Checked Thing
local_named scope line name = local_meant scope line (get scope.raw.locals name) name

-- blocks see the names of `construct` and of the file, methods those of the file alone
abbrev pub outer_of : BodySort → Scope → ℕ → List ℕ → Checked Thing
outer_of sort.Method scope line name = file_named scope line name
outer_of _ scope line name = local_named scope line name

-- what a name is that the body doesn't assign
unfoldable pub outer_named : Scope → ℕ → List ℕ → Checked Thing
outer_named scope = outer_of scope.sort scope

-- what a name of the body stands for
abbrev pub bound_thing : ℕ → Option Bound → Checked Thing
bound_thing line (Some (bound.Int n)) = Ok (things.integer n)
bound_thing line (Some (bound.Temp t ty)) = Ok (things.temporary t 0 ty)
bound_thing line _ = Err (MaybeUnbound line)

-- a name of the body, which hides all others, or else another
abbrev pub named_at : Site → Option ℕ → List ℕ → Checked Thing
named_at site (Some k) name = bound_thing site.line (slice_get site.bounds k)
named_at site None name = outer_named site.scope site.line name

-- what a name is
unfoldable pub name_thing : List ℕ → Site → Checked Thing
name_thing name site = named_at site (get site.scope.own name) name

-- ---- attributes

-- a value that there is, or else an attribute without a meaning
abbrev pub seen_if : ℕ → Option ℕ → Option Value → Checked Thing
seen_if line whose (Some v) = seen line whose v
seen_if line whose None = Err (MaybeUnbound line)

-- the clock is never to be named
unfoldable pub attribute_in : ℕ → Option ℕ → RawKind → List ℕ → Checked Thing
attribute_in line whose raw name =
    if bytes_eq name (codes "clk") then Err (NotAllowedHere line) else seen_if line whose (get raw.attributes name)

-- an attribute of a child, by its kind
abbrev pub child_attribute_in : ℕ → ℕ → Option RawKind → List ℕ → Checked Thing
child_attribute_in line k (Some raw) name = attribute_in line (Some k) raw name
child_attribute_in line k None name = Err (MaybeUnbound line)

-- an attribute of a child
unfoldable pub child_attribute : Scope → ℕ → ℕ → List ℕ → Checked Thing
child_attribute scope line k name =
    child_attribute_in line k (slice_get scope.design.kinds (kind_of_child scope.kind.children k)) name

-- a member of an interface
unfoldable pub member_thing : ℕ → Option ℕ → List Member → List ℕ → Checked Thing
member_thing line whose ms name = seen_if line whose (member_named ms name)

-- the changes of a deque and their names
abbrev pub named_changes : List (List ℕ × Change)
named_changes =
    (codes "append", changes.Push side.Right)
    ∷ (codes "appendleft", changes.Push side.Left)
    ∷ (codes "pop", changes.Pop side.Right)
    ∷ (codes "popleft", changes.Pop side.Left)
    ∷ (codes "clear", changes.Clear)
    ∷ []

-- the change of a name in a list
abbrev pub change_in : List (List ℕ × Change) → List ℕ → Option Change
change_in [] name = None
change_in (c ∷ cs) name = if bytes_eq name c.0 then Some c.1 else change_in cs name

-- the change of a name
unfoldable pub change_named : List ℕ → Option Change
change_named = change_in named_changes

-- how many items a deque holds at most, and 0 for a number
abbrev pub most_of : Option State → ℕ
most_of (Some s) = s.maxlen
most_of None = 0

-- how many items a deque holds at most, and 0 for a number
unfoldable pub most_items : Scope → ℕ → ℕ
most_items scope k = most_of (slice_get scope.kind.states k)

-- a change that there is, or else an attribute without a meaning
abbrev pub change_if : ℕ → ℕ → Option Change → Checked Thing
change_if line k (Some c) = Ok (things.change k c)
change_if line k None = Err (MaybeUnbound line)

-- an attribute of a deque
unfoldable pub deque_attribute : ℕ → ℕ → ℕ → List ℕ → Checked Thing
deque_attribute line k most name =
    if bytes_eq name (codes "maxlen") then Ok (things.integer (pos most)) else change_if line k (change_named name)

-- an attribute of a state: numbers have none
unfoldable pub state_attribute : Scope → ℕ → ℕ → List ℕ → Checked Thing
state_attribute scope line k name =
    if nat_lt 0 (most_items scope k) then deque_attribute line k (most_items scope k) name else Err (MaybeUnbound line)
