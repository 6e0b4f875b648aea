-- Connections of two ends, and of interfaces member by member.
use Rattle.std.specs.Prelude.{ℕ, ℤ, Bool, true, false, ◌&&◌, ◌||◌, ◌==◌, if◌then◌else◌, List, [], ◌∷◌, ◌++◌, map, length, slice_get, Option, Some, None, is_some, Ok, Err}
use Rattle.std.specs.Option.{option_map}
use Rattle.pm_bits.specs.Word.{Word}
use Rattle.pm_design.specs.declared.connection.Callee.{Callee}
use Rattle.pm_design.specs.declared.connection.Callee.TheVariants as callee
use Rattle.pm_design.specs.declared.connection.Part.{Part}
use Rattle.pm_values.specs.declared.fault.BuildFault.TheVariants.{WrongKind}
use Rattle.pm_values.specs.declared.reference.CallerTypes.{CallerTypes}
use Rattle.pm_values.specs.declared.reference.Reference.{Reference}
use Rattle.pm_values.specs.declared.reference.ValueType.{ValueType}
use Rattle.pm_values.specs.declared.value.Member.{Member, Member-F, fold-Member}
use Rattle.pm_values.specs.declared.value.Taken.TheVariants as taken
use Rattle.pm_values.specs.declared.value.Value.{Value, Value-F, out-Value, fold-Value}
use Rattle.pm_elab.specs.declared.body.MethodTypes.{MethodTypes}
use Rattle.pm_elab.specs.declared.class.ConstructedClass.{ConstructedClass}
use Rattle.pm_elab.specs.declared.class.ConstructedClass.TheVariants as class
use Rattle.pm_elab.specs.declared.elaboration.MadeKind.{MadeKind}
use Rattle.pm_elab.specs.declared.frame.Frame.{Frame}
use Rattle.pm_elab.specs.Attributes.{member_named}
use Rattle.pm_elab.specs.Elab.{Checked, and_then}
use Rattle.pm_elab.specs.Values.{constant_of}
use Rattle.pm_elab.specs.Views.{kind_of_child}

-- a component alone may have what the second says
abbrev pub in_class : ConstructedClass → ℕ → Checked Frame → Checked Frame
in_class class.Component line outcome = outcome
in_class class.Interface line outcome = Err (WrongKind line)

-- a component alone may have what the second says; in an interface it is a fault
abbrev pub in_component : Frame → ℕ → Checked Frame → Checked Frame
in_component f line outcome = in_class f.class line outcome

-- ---- types

-- two numbers that may be missing are the same
unfoldable pub same_number : Option ℕ → Option ℕ → Bool
same_number None None = true
same_number (Some a) (Some b) = a == b
same_number _ _ = false

-- two types are the same: a bitstruct equals only itself
unfoldable pub same_type : ValueType → ValueType → Bool
same_type t u = t.width == u.width && same_number t.shape u.shape

-- two types that may be missing are the same
unfoldable pub same_type_if : Option ValueType → Option ValueType → Bool
same_type_if None None = true
same_type_if (Some t) (Some u) = same_type t u
same_type_if _ _ = false

-- the types are the same, one by one
unfoldable pub same_types : List ValueType → List ValueType → Bool
same_types [] [] = true
same_types (t ∷ ts) (u ∷ us) = same_type t u && same_types ts us
same_types _ _ = false

-- ---- signals and constants

-- the component's own `reset`
unfoldable pub is_reset : Part → Bool
is_reset p = p.owner == 0 && p.signal == 0

-- a further connection of two parts
abbrev pub with_join : Frame → ℕ → Part → Part → Bool → Frame
with_join f line a b same = record f {
  kind = record f.kind { joins = f.kind.joins ++ record { line = line; a = a; b = b; equal_types = same } ∷ [] };
}

-- the type of what a reference names
abbrev pub type_of_reference : Reference → ValueType
type_of_reference r = record { width = r.part.width; shape = r.shape }

-- two signals are connected; `s.reset` isn't to be connected
unfoldable pub join_signals : Reference → Reference → ℕ → Frame → Checked Frame
join_signals r q line f =
    if is_reset r.part || is_reset q.part then Err (WrongKind line)
    else Ok (with_join f line r.part q.part (same_type (type_of_reference r) (type_of_reference q)))

-- a further tie
abbrev pub with_tie : Frame → ℕ → Part → Option Word → Frame
with_tie f line part w = record f { kind = record f.kind { ties = f.kind.ties ++ record { line = line; part = part; value = w } ∷ [] } }

-- a signal is tied to a constant, or to none that fits it
unfoldable pub tie : Reference → Option Word → ℕ → Frame → Checked Frame
tie r w line f = if is_reset r.part then Err (WrongKind line) else Ok (with_tie f line r.part w)

-- an integer as a constant of a signal, which is no bitstruct
unfoldable pub tied_int : Reference → ℤ → Option Word
tied_int r n = if is_some r.shape then None else constant_of r.part.width n

-- a constant of a signal, which has its width and is no bitstruct
unfoldable pub tied_constant : Reference → Word → Option Word
tied_constant r w = if is_some r.shape then None else (if w.width == r.part.width then Some w else None)

-- a signal is tied to an integer
unfoldable pub tie_int : Reference → ℤ → ℕ → Frame → Checked Frame
tie_int r n line f = tie r (tied_int r n) line f

-- a signal is tied to a constant
unfoldable pub tie_constant : Reference → Word → ℕ → Frame → Checked Frame
tie_constant r w line f = tie r (tied_constant r w) line f

-- ---- methods and ports for calls

-- what a call hands over and gets back
pub record CallTypes : Type 0 where
  pub arguments : List ValueType
  pub result : Option ValueType

-- those of a method
abbrev pub types_of_method : MethodTypes → CallTypes
types_of_method m = record { arguments = map (λ a. a.ty) m.arguments; result = m.result }

-- one type, or none
abbrev pub type_list : Option ValueType → List ValueType
type_list None = []
type_list (Some t) = t ∷ []

-- those of a caller port
abbrev pub types_of_caller : CallerTypes → CallTypes
types_of_caller c = record { arguments = type_list c.argument; result = c.result }

-- those of a method of a child's kind
abbrev pub child_method : Option MadeKind → ℕ → Option CallTypes
child_method None m = None
child_method (Some k) m = option_map types_of_method (slice_get k.raw.methods m)

-- those of a caller port of a child's kind
abbrev pub child_caller : Option MadeKind → ℕ → Option CallTypes
child_caller None p = None
child_caller (Some k) p = option_map types_of_caller (slice_get k.raw.callers p)

-- the kind of a child
abbrev pub child_kind : List MadeKind → Frame → ℕ → Option MadeKind
child_kind kinds f k = slice_get kinds (kind_of_child f.kind.children k)

-- those of what a call names
abbrev pub call_types_of : List MadeKind → Frame → Callee → Option CallTypes
call_types_of kinds f (callee.Own m) = option_map types_of_method (slice_get f.raw.methods m)
call_types_of kinds f (callee.Port p) = option_map types_of_caller (slice_get f.raw.callers p)
call_types_of kinds f (callee.Child k m) = child_method (child_kind kinds f k) m
call_types_of kinds f (callee.ChildPort k p) = child_caller (child_kind kinds f k) p

-- two calls hand over and get back the same types
abbrev pub same_call_types : Option CallTypes → Option CallTypes → Bool
same_call_types (Some a) (Some b) = same_types a.arguments b.arguments && same_type_if a.result b.result
same_call_types _ _ = false

-- two calls have the same types
unfoldable pub equal_calls : List MadeKind → Frame → Callee → Callee → Bool
equal_calls kinds f c d = same_call_types (call_types_of kinds f c) (call_types_of kinds f d)

-- a caller port, of the component or of a child
unfoldable pub is_caller : Callee → Bool
is_caller (callee.Port p) = true
is_caller (callee.ChildPort k p) = true
is_caller _ = false

-- a further connection of a caller port
abbrev pub with_bind : Frame → ℕ → Callee → Callee → Bool → Frame
with_bind f line c d same = record f {
  kind = record f.kind { binds = f.kind.binds ++ record { line = line; a = c; b = d; equal_types = same } ∷ [] };
}

-- a caller port is connected to a method or to another caller port
unfoldable pub bind : List MadeKind → Callee → Callee → ℕ → Frame → Checked Frame
bind kinds c d line f =
    if is_caller c || is_caller d then Ok (with_bind f line c d (equal_calls kinds f c d)) else Err (WrongKind line)

-- ---- two ends

-- what is at the other end of a signal
abbrev pub signal_end_at : Reference → ℕ → Frame → Value-F Value Member → Checked Frame
signal_end_at r line f (Value-F.Taken (taken.Signal q)) = join_signals r q line f
signal_end_at r line f (Value-F.Int n) = tie_int r n line f
signal_end_at r line f (Value-F.Const w) = tie_constant r w line f
signal_end_at r line f _ = Err (WrongKind line)

-- a signal is connected to a signal, or tied
unfoldable pub signal_end : Reference → Value → ℕ → Frame → Checked Frame
signal_end r v line f = signal_end_at r line f (out-Value v)

-- what is at the other end of an integer
abbrev pub int_end_at : ℤ → ℕ → Frame → Value-F Value Member → Checked Frame
int_end_at n line f (Value-F.Taken (taken.Signal r)) = tie_int r n line f
int_end_at n line f _ = Err (WrongKind line)

-- an integer ties a signal
unfoldable pub int_end : ℤ → Value → ℕ → Frame → Checked Frame
int_end n v line f = int_end_at n line f (out-Value v)

-- what is at the other end of a constant
abbrev pub constant_end_at : Word → ℕ → Frame → Value-F Value Member → Checked Frame
constant_end_at w line f (Value-F.Taken (taken.Signal r)) = tie_constant r w line f
constant_end_at w line f _ = Err (WrongKind line)

-- a constant ties a signal
unfoldable pub constant_end : Word → Value → ℕ → Frame → Checked Frame
constant_end w v line f = constant_end_at w line f (out-Value v)

-- what is at the other end of a method or a caller port
abbrev pub method_end_at : List MadeKind → Callee → ℕ → Frame → Value-F Value Member → Checked Frame
method_end_at kinds c line f (Value-F.Taken (taken.Method d)) = bind kinds c d line f
method_end_at kinds c line f _ = Err (WrongKind line)

-- a method or a caller port is connected to another
unfoldable pub method_end : List MadeKind → Callee → Value → ℕ → Frame → Checked Frame
method_end kinds c v line f = method_end_at kinds c line f (out-Value v)

-- two ends are connected
abbrev pub ends_at : List MadeKind → Value → ℕ → Frame → Value-F Value Member → Checked Frame
ends_at kinds v line f (Value-F.Taken (taken.Signal r)) = signal_end r v line f
ends_at kinds v line f (Value-F.Taken (taken.Method c)) = method_end kinds c v line f
ends_at kinds v line f (Value-F.Int n) = int_end n v line f
ends_at kinds v line f (Value-F.Const w) = constant_end w v line f
ends_at kinds v line f _ = Err (WrongKind line)

-- two ends are connected: signals, a signal and a constant, or a caller port and what it calls
unfoldable pub ends : List MadeKind → Value → Value → ℕ → Frame → Checked Frame
ends kinds a b line f = ends_at kinds b line f (out-Value a)

-- ---- interfaces

-- the member's name, and whether it matches a value
pub record MemberMatch : Type 0 where
  pub name : List ℕ
  pub matches : Value → Bool

-- what a member matches is there
abbrev pub matches_named : (Value → Bool) → Option Value → Bool
matches_named matches None = false
matches_named matches (Some v) = matches v

-- the member matches the other interface's member of its name
unfoldable pub match_in : List Member → MemberMatch → Bool
match_in ms p = matches_named p.matches (member_named ms p.name)

-- each member matches the other interface's member of its name
unfoldable pub members_match : List MemberMatch → List Member → Bool
members_match [] ms = true
members_match (p ∷ ps) ms = match_in ms p && members_match ps ms

-- the elements match, one by one
unfoldable pub items_match : List (Value → Bool) → List Value → Bool
items_match [] [] = true
items_match (p ∷ ps) (v ∷ vs) = p v && items_match ps vs
items_match _ _ = false

-- an interface with as many members of the same names
abbrev pub interface_matches_at : List MemberMatch → Value-F Value Member → Bool
interface_matches_at ps (Value-F.Interface ms) = length ps == length ms && members_match ps ms
interface_matches_at ps _ = false

-- an interface with as many members of the same names
unfoldable pub interface_matches : List MemberMatch → Value → Bool
interface_matches ps v = interface_matches_at ps (out-Value v)

-- a list as long
abbrev pub list_matches_at : List (Value → Bool) → Value-F Value Member → Bool
list_matches_at ps (Value-F.Items vs) = items_match ps vs
list_matches_at ps _ = false

-- a list as long, whose elements match
unfoldable pub list_matches : List (Value → Bool) → Value → Bool
list_matches ps v = list_matches_at ps (out-Value v)

-- neither an interface nor a list
abbrev pub single_at : Value-F Value Member → Bool
single_at (Value-F.Interface ms) = false
single_at (Value-F.Items vs) = false
single_at _ = true

-- neither an interface nor a list
unfoldable pub is_single : Value → Bool
is_single v = single_at (out-Value v)

-- whether a value can stand for the other in an interface, by the names of members and the lengths of lists
abbrev pub matching_of : Value-F (Value → Bool) MemberMatch → Value → Bool
matching_of (Value-F.Interface ps) v = interface_matches ps v
matching_of (Value-F.Items ps) v = list_matches ps v
matching_of _ v = is_single v

-- a member and how it matches
abbrev pub member_matching : Member-F (Value → Bool) MemberMatch → MemberMatch
member_matching m = record { name = m.name; matches = m.value }

-- the values have the same names of members, and lists of the same lengths
unfoldable pub matching : Value → Value → Bool
matching = fold-Value (Value → Bool) MemberMatch matching_of member_matching

-- a member's name, and what matches its value
unfoldable pub member_match : Member → MemberMatch
member_match = fold-Member (Value → Bool) MemberMatch matching_of member_matching

-- what connecting a value to another does to a component
abbrev pub Joining : Type 0
Joining = List MadeKind → Value → ℕ → Frame → Checked Frame

-- a member's name, and what connecting it does
pub record MemberJoining : Type 0 where
  pub name : List ℕ
  pub joins : Joining

-- a member is connected to the member of its name
abbrev pub join_named : Joining → List MadeKind → Option Value → ℕ → Frame → Checked Frame
join_named joins kinds None line f = Err (WrongKind line)
join_named joins kinds (Some v) line f = joins kinds v line f

-- a member is connected to the other interface's member of its name
unfoldable pub join_in : MemberJoining → List MadeKind → List Member → ℕ → Frame → Checked Frame
join_in p kinds ms line f = join_named p.joins kinds (member_named ms p.name) line f

-- members in order, each connected to the member of its name
unfoldable pub join_members : List MemberJoining → List MadeKind → List Member → ℕ → Frame → Checked Frame
join_members [] kinds ms line f = Ok f
join_members (p ∷ ps) kinds ms line f = and_then (join_in p kinds ms line f) (λ g. join_members ps kinds ms line g)

-- elements from the left, each connected to the one at its place
unfoldable pub join_items : List Joining → List MadeKind → List Value → ℕ → Frame → Checked Frame
join_items (p ∷ ps) kinds (v ∷ vs) line f = and_then (p kinds v line f) (λ g. join_items ps kinds vs line g)
join_items _ kinds _ line f = Ok f

-- an interface to an interface
abbrev pub join_interface_at : List MemberJoining → List MadeKind → ℕ → Frame → Value-F Value Member → Checked Frame
join_interface_at ps kinds line f (Value-F.Interface ms) = join_members ps kinds ms line f
join_interface_at ps kinds line f _ = Err (WrongKind line)

-- an interface to an interface
unfoldable pub join_interface : List MemberJoining → Joining
join_interface ps kinds v line f = join_interface_at ps kinds line f (out-Value v)

-- a list to a list
abbrev pub join_list_at : List Joining → List MadeKind → ℕ → Frame → Value-F Value Member → Checked Frame
join_list_at ps kinds line f (Value-F.Items vs) = join_items ps kinds vs line f
join_list_at ps kinds line f _ = Err (WrongKind line)

-- a list to a list
unfoldable pub join_list : List Joining → Joining
join_list ps kinds v line f = join_list_at ps kinds line f (out-Value v)

-- two integers of one name connect nothing
abbrev pub join_int_at : ℤ → Value → ℕ → Frame → Value-F Value Member → Checked Frame
join_int_at n v line f (Value-F.Int k) = Ok f
join_int_at n v line f _ = int_end n v line f

-- an integer to a member: to another integer it connects nothing
unfoldable pub join_int : ℤ → Joining
join_int n kinds v line f = join_int_at n v line f (out-Value v)

-- what connecting a member does
abbrev pub joining_of : Value-F Joining MemberJoining → Joining
joining_of (Value-F.Interface ps) = join_interface ps
joining_of (Value-F.Items ps) = join_list ps
joining_of (Value-F.Int n) = join_int n
joining_of (Value-F.Const w) = λ kinds v line f. constant_end w v line f
joining_of (Value-F.Taken (taken.Signal r)) = λ kinds v line f. signal_end r v line f
joining_of (Value-F.Taken (taken.Method c)) = λ kinds v line f. method_end kinds c v line f
joining_of _ = λ kinds v line f. Err (WrongKind line)

-- a member and what connecting it does
abbrev pub member_joining : Member-F Joining MemberJoining → MemberJoining
member_joining m = record { name = m.name; joins = m.value }

-- a member of an interface is connected to that of the same name in another
unfoldable pub join_member : Value → Joining
join_member = fold-Value Joining MemberJoining joining_of member_joining

-- a member's name, and what connecting its value does
unfoldable pub named_joining : Member → MemberJoining
named_joining = fold-Member Joining MemberJoining joining_of member_joining

-- the line of a connection of interfaces whose members differ
abbrev pub with_mismatch : Frame → ℕ → Frame
with_mismatch f line = record f { kind = record f.kind { mismatched = f.kind.mismatched ++ line ∷ [] } }

-- two interfaces are connected member by member; where their members' names differ, nothing is
unfoldable pub join_interfaces : List MadeKind → Value → Value → ℕ → Frame → Checked Frame
join_interfaces kinds a b line f = if matching a b then join_member a kinds b line f else Ok (with_mismatch f line)

-- ---- all connections

-- an interface
abbrev pub interface_at : Value-F Value Member → Bool
interface_at (Value-F.Interface ms) = true
interface_at _ = false

-- an interface
unfoldable pub is_interface : Value → Bool
is_interface v = interface_at (out-Value v)

-- two interfaces, or two ends
unfoldable pub connection : List MadeKind → Value → Value → ℕ → Frame → Checked Frame
connection kinds a b line f = if is_interface a && is_interface b then join_interfaces kinds a b line f else ends kinds a b line f

-- `a //= b` and `connect( a, b )`, which an interface can't have
unfoldable pub connected : List MadeKind → Value → Value → ℕ → Frame → Checked Frame
connected kinds a b line f = in_component f line (connection kinds a b line f)
