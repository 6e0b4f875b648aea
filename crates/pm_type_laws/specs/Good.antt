-- What a body may meet as elaboration has made it: types, references and other values.
use Rattle.std.specs.Prelude.{ℕ, ◌+◌, ◌^◌, ◌==◌, ◌≡◌, ◌<◌, ◌&&◌, Bool, true, false, nat_lt, nat_le, if◌then◌else◌, IsTrue, List, map, length, slice_get, Option, Some, None}
use Rattle.std.specs.List.{list_all}
use Rattle.pm_bits.specs.Word.{Word}
use Rattle.pm_design.specs.declared.connection.Callee.{Callee}
use Rattle.pm_design.specs.declared.connection.Callee.TheVariants as callee
use Rattle.pm_design.specs.declared.design.State.{State}
use Rattle.pm_design.specs.declared.signal.Field.{Field}
use Rattle.pm_design.specs.declared.signal.Shape.{Shape}
use Rattle.pm_design.specs.Lookups.{is_readable, signal_of, signature_of}
use Rattle.pm_design.specs.Widths.{total, is_width}
use Rattle.pm_values.specs.declared.reference.Reference.{Reference}
use Rattle.pm_values.specs.declared.reference.ValueType.{ValueType}
use Rattle.pm_values.specs.declared.value.Taken.{Taken}
use Rattle.pm_values.specs.declared.value.Taken.TheVariants as taken
use Rattle.pm_values.specs.declared.value.Value.{Value, Value-F, fold-Value}
use Rattle.pm_elab.specs.declared.elaboration.RawKind.{RawKind}
use Rattle.pm_elab.specs.Values.{member_sort}
use Rattle.pm_elab.specs.Views.{is_port, kind_of_child}
use Rattle.pm_elab_laws.specs.Told.{is_told_of}
use Rattle.pm_typing.specs.References.{type_of}
use Rattle.pm_typing.specs.Sites.{Scope}

-- ---- types

-- a bitstruct of a width is there
abbrev pub has_shape : List Shape → ℕ → Option Shape → Bool
has_shape shapes width (Some shape) = shape.width == width
has_shape shapes width None = false

-- Bits, or a bitstruct that is there and as wide
abbrev pub fills : List Shape → ℕ → Option ℕ → Bool
fills shapes width None = true
fills shapes width (Some k) = has_shape shapes width (slice_get shapes k)

-- a type of 1 to 128 bits
abbrev pub is_type : List Shape → ValueType → Bool
is_type shapes ty = is_width ty.width && fills shapes ty.width ty.shape

-- a field lies within its bitstruct, and its type is there
abbrev pub is_field : List Shape → ℕ → Field → Bool
is_field shapes width f = nat_le (f.lo + f.width) width && is_type shapes (record { width = f.width; shape = f.shape })

-- a bitstruct has a field, and its fields fill it
abbrev pub is_packed : List Shape → Shape → Bool
is_packed shapes shape =
    nat_lt 0 (length shape.fields)
    && (total (map (λ f. f.width) shape.fields) == shape.width && list_all (is_field shapes shape.width) shape.fields)

-- ---- values

-- a constant has 1 to 128 bits, and fits them
abbrev pub is_constant : Word → Bool
is_constant w = is_width w.width && nat_lt w.value (2 ^ w.width)

-- a reference has its signal's role, and all bits of it where it is spelled as a whole one
abbrev pub is_told : Scope → Reference → Bool
is_told scope r = is_told_of r (signal_of scope.design.design scope.kind r.part)

-- a reference names bits that the component may read, as they are, and has a type of their width
abbrev pub is_reference : Scope → Reference → Bool
is_reference scope r =
    (is_readable scope.design.design scope.kind r.part && is_told scope r) && is_type scope.design.design.shapes (type_of r)

-- the child's own signal, as its parent names it
abbrev pub of_child : ℕ → Reference → Reference
of_child k r = record r { part = record r.part { owner = k + 1 } }

-- a state is there, with a type of its width and room for at most 64 items
abbrev pub has_type : List Shape → Option ValueType → Option State → Bool
has_type shapes (Some ty) (Some state) = ty.width == state.width && (nat_le state.maxlen 64 && is_type shapes ty)
has_type shapes _ _ = false

-- a state is there, with a type of its width and room for at most 64 items
abbrev pub is_state : Scope → ℕ → Bool
is_state scope k = has_type scope.design.design.shapes (slice_get scope.raw.states k) (slice_get scope.kind.states k)

-- a method or caller port is there
abbrev pub is_callable : Scope → Callee → Bool
is_callable scope c = (signature_of scope.design.design scope.kind c).there

-- what an attribute of the component has taken
abbrev pub is_own : Scope → Taken → Bool
is_own scope (taken.Signal r) = is_reference scope r
is_own scope (taken.Child k) = nat_lt k (length scope.kind.children)
is_own scope (taken.State k) = is_state scope k
is_own scope (taken.Method c) = is_callable scope c
is_own scope _ = true

-- a child's method or caller port, as its parent names it
abbrev pub is_callable_of : Scope → ℕ → Callee → Bool
is_callable_of scope k (callee.Own m) = is_callable scope (callee.Child k m)
is_callable_of scope k (callee.Port p) = is_callable scope (callee.ChildPort k p)
is_callable_of scope k _ = true

-- what an attribute of a child has taken
abbrev pub is_childs : Scope → ℕ → Taken → Bool
is_childs scope k (taken.Signal r) = if r.part.owner == 0 && is_port r.role then is_reference scope (of_child k r) else true
is_childs scope k (taken.Method c) = is_callable_of scope k c
is_childs scope k _ = true

-- what an attribute of the component, or of its child of a number, has taken
abbrev pub is_taken : Scope → Option ℕ → Taken → Bool
is_taken scope None = is_own scope
is_taken scope (Some k) = is_childs scope k

-- a value of the component, or of its child of a number, by its elements and members
abbrev pub is_value_of : Scope → Option ℕ → Value-F Bool Bool → Bool
is_value_of scope whose (Value-F.Type ty) = is_type scope.design.design.shapes ty
is_value_of scope whose (Value-F.Const w) = is_constant w
is_value_of scope whose (Value-F.Items bs) = list_all (λ b. b) bs
is_value_of scope whose (Value-F.Interface bs) = list_all (λ b. b) bs
is_value_of scope whose (Value-F.Taken t) = is_taken scope whose t
is_value_of scope whose _ = true

-- a value of the component, or of its child of a number
unfoldable pub is_value : Scope → Option ℕ → Value → Bool
is_value scope whose = fold-Value Bool Bool (is_value_of scope whose) member_sort

-- the attributes of the component, or of its child of a number
abbrev pub has_values : Scope → Option ℕ → RawKind → Bool
has_values scope whose raw = list_all (λ a. is_value scope whose a.1) raw.attributes

-- what the lines of a body see is as elaboration makes it
pub record IsMade (scope : Scope) : Type 0 where
  pub shapes : IsTrue (list_all (is_packed scope.design.design.shapes) scope.design.design.shapes)
  pub names : IsTrue (list_all (λ n. is_value scope None n.1) scope.design.names)
  pub locals : IsTrue (list_all (λ l. is_value scope None l.1.value) scope.raw.locals)
  pub own : IsTrue (has_values scope None scope.raw)
  pub children : (k : ℕ) (raw : RawKind) → k < length scope.kind.children
      → slice_get scope.design.kinds (kind_of_child scope.kind.children k) ≡ Some raw
      → IsTrue (has_values scope (Some k) raw)
