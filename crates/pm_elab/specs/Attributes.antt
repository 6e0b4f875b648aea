-- Attributes, elements and slices.
use Rattle.std.specs.Prelude.{ℕ, ◌+◌, ◌-◌, ℤ, pos, negsuc, ◌&&◌, if◌then◌else◌, nat_lt, nat_le, List, [], ◌∷◌, slice_get, codes, Option, Some, None, Ok, Err}
use Rattle.std.specs.Option.{option_map}
use Rattle.std.specs.Str.{bytes_eq}
use Rattle.pm_design.specs.declared.signal.Field.{Field}
use Rattle.pm_design.specs.declared.signal.Shape.{Shape}
use Rattle.pm_values.specs.declared.fault.BuildFault.TheVariants.{Unbound, WrongKind, IntRange}
use Rattle.pm_values.specs.declared.reference.Form.TheVariants as form
use Rattle.pm_values.specs.declared.reference.Reference.{Reference}
use Rattle.pm_values.specs.declared.value.Taken.{Taken}
use Rattle.pm_values.specs.declared.value.Taken.TheVariants as taken
use Rattle.pm_values.specs.declared.value.Member.{Member}
use Rattle.pm_values.specs.declared.value.Value.{Value, Value-F, out-Value}
use Rattle.pm_values.specs.declared.value.Value.TheVariants as value
use Rattle.pm_values.specs.Tables.{get}
use Rattle.pm_elab.specs.declared.class.ConstructedClass.{ConstructedClass}
use Rattle.pm_elab.specs.declared.class.ConstructedClass.TheVariants as class
use Rattle.pm_elab.specs.declared.elaboration.Elaboration.{Elaboration}
use Rattle.pm_elab.specs.declared.elaboration.MadeKind.{MadeKind}
use Rattle.pm_elab.specs.declared.frame.Frame.{Frame}
use Rattle.pm_elab.specs.Elab.{Checked, and_then, or_else}
use Rattle.pm_elab.specs.Sites.{Site}
use Rattle.pm_elab.specs.Values.{item}
use Rattle.pm_elab.specs.Views.{viewed, member_seen, kind_of_child}

-- ---- fields of a bitstruct

-- the field of a name
abbrev pub field_in : List Field → List ℕ → Option Field
field_in [] name = None
field_in (f ∷ fs) name = if bytes_eq f.name name then Some f else field_in fs name

-- the field of a bitstruct
abbrev pub field_of_shape : Option Shape → List ℕ → Option Field
field_of_shape None name = None
field_of_shape (Some shape) name = field_in shape.fields name

-- a field of what a reference names
abbrev pub field_part : Reference → Field → Reference
field_part r f = record r { part = record r.part { lo = r.part.lo + f.lo; width = f.width }; shape = f.shape; form = form.Field }

-- the bitstruct of a number, where there is one
abbrev pub shape_at : List Shape → Option ℕ → Option Shape
shape_at shapes None = None
shape_at shapes (Some k) = slice_get shapes k

-- the field of a reference's bitstruct
unfoldable pub field_named : List Shape → Reference → List ℕ → Option Reference
field_named shapes r name = option_map (field_part r) (field_of_shape (shape_at shapes r.shape) name)

-- ---- attributes

-- the member of a name
unfoldable pub member_named : List Member → List ℕ → Option Value
member_named [] name = None
member_named (m ∷ ms) name = if bytes_eq m.name name then Some m.value else member_named ms name

-- an attribute of a kind, as seen from above
abbrev pub kind_attribute : Option ℕ → Option MadeKind → List ℕ → Option Value
kind_attribute child None name = None
kind_attribute child (Some k) name = option_map (viewed (record { child = child; children = k.kind.children })) (get k.raw.attributes name)

-- an attribute of the component's own child
abbrev pub child_attribute : List MadeKind → Option Frame → ℕ → List ℕ → Option Value
child_attribute kinds None k name = None
child_attribute kinds (Some f) k name = kind_attribute (Some k) (slice_get kinds (kind_of_child f.kind.children k)) name

-- an attribute of what an attribute has taken
abbrev pub attribute_of_taken : Elaboration → Option Frame → Taken → List ℕ → Option Value
attribute_of_taken m frame (taken.Signal r) name = option_map (λ f. value.Taken (taken.Signal f)) (field_named m.shapes r name)
attribute_of_taken m frame (taken.FarSignal r) name = option_map (λ f. value.Taken (taken.FarSignal f)) (field_named m.shapes r name)
attribute_of_taken m frame (taken.Child k) name = child_attribute m.kinds frame k name
attribute_of_taken m frame (taken.Descendant k) name = kind_attribute None (slice_get m.kinds k) name
attribute_of_taken m frame _ name = None

-- an attribute of what an attribute has taken
unfoldable pub taken_attribute : Elaboration → Option Frame → Taken → List ℕ → Option Value
taken_attribute = attribute_of_taken

-- an attribute of a component that is being made: `s.clk` isn't to be named
unfoldable pub component_attribute : ℕ → Frame → List ℕ → Checked Value
component_attribute line f name =
    if bytes_eq name (codes "clk") then Err (WrongKind line) else or_else (get f.raw.attributes name) (Unbound line)

-- an attribute of an interface that is being made
unfoldable pub interface_attribute : ℕ → Frame → List ℕ → Checked Value
interface_attribute line f name = or_else (option_map member_seen (get f.raw.attributes name)) (Unbound line)

-- an attribute of `s`
abbrev pub attribute_of_own : ConstructedClass → ℕ → Frame → List ℕ → Checked Value
attribute_of_own class.Component line f name = component_attribute line f name
attribute_of_own class.Interface line f name = interface_attribute line f name

-- an attribute of `s`
abbrev pub own_attribute_in : ℕ → Option Frame → List ℕ → Checked Value
own_attribute_in line None name = Err (Unbound line)
own_attribute_in line (Some f) name = attribute_of_own f.class line f name

-- an attribute of `s`
unfoldable pub own_attribute : Site → List ℕ → Checked Value
own_attribute site name = own_attribute_in site.line site.frame name

-- an attribute of a value
abbrev pub attribute_at : Elaboration → Site → List ℕ → Value-F Value Member → Checked Value
attribute_at m site name Value-F.Own = own_attribute site name
attribute_at m site name (Value-F.Type t) = if bytes_eq name (codes "nbits") then Ok (value.Int (pos t.width)) else Err (Unbound site.line)
attribute_at m site name (Value-F.Taken t) = or_else (taken_attribute m site.frame t name) (Unbound site.line)
attribute_at m site name (Value-F.Interface ms) = or_else (member_named ms name) (Unbound site.line)
attribute_at m site name _ = Err (Unbound site.line)

-- an attribute of a value
unfoldable pub attribute : Elaboration → Site → List ℕ → Value → Checked Value
attribute m site name v = attribute_at m site name (out-Value v)

-- ---- bits, slices and elements

-- the bit of a reference at an index from 0
abbrev pub bit_at : ℕ → Reference → ℤ → Checked Reference
bit_at line r (pos k) =
    if nat_lt k r.part.width
    then Ok (record r { part = record r.part { lo = r.part.lo + k; width = 1 }; shape = None; form = form.Bit })
    else Err (IntRange line)
bit_at line r (negsuc k) = Err (IntRange line)

-- the bit of a reference at an index from 0
unfoldable pub bit : ℕ → Reference → ℤ → Checked Reference
bit = bit_at

-- the bits from lo to hi - 1, at least one
abbrev pub bits_from : ℕ → Reference → ℤ → ℤ → Checked Reference
bits_from line r (pos lo) (pos hi) =
    if nat_lt lo hi && nat_le hi r.part.width
    then Ok (record r { part = record r.part { lo = r.part.lo + lo; width = hi - lo }; shape = None; form = form.Slice })
    else Err (IntRange line)
bits_from line r _ _ = Err (IntRange line)

-- the bits from lo to hi - 1, at least one
unfoldable pub bits_between : ℕ → Reference → ℤ → ℤ → Checked Reference
bits_between = bits_from

-- lists and signals have elements
abbrev pub indexable_at : ℕ → Value-F Value Member → Checked (Unit {0})
indexable_at line (Value-F.Items vs) = Ok tt
indexable_at line (Value-F.Taken (taken.Signal r)) = Ok tt
indexable_at line (Value-F.Taken (taken.FarSignal r)) = Ok tt
indexable_at line _ = Err (WrongKind line)

-- a value that has elements: a list or a signal
unfoldable pub indexable : ℕ → Value → Checked (Unit {0})
indexable line v = indexable_at line (out-Value v)

-- signals have slices
abbrev pub sliceable_at : ℕ → Value-F Value Member → Checked (Unit {0})
sliceable_at line (Value-F.Taken (taken.Signal r)) = Ok tt
sliceable_at line (Value-F.Taken (taken.FarSignal r)) = Ok tt
sliceable_at line _ = Err (WrongKind line)

-- a value that has slices: a signal
unfoldable pub sliceable : ℕ → Value → Checked (Unit {0})
sliceable line v = sliceable_at line (out-Value v)

-- some bits of an own signal or a port of a child
abbrev pub signal_value : Reference → Checked Value
signal_value r = Ok (value.Taken (taken.Signal r))

-- some bits of another signal
abbrev pub far_value : Reference → Checked Value
far_value r = Ok (value.Taken (taken.FarSignal r))

-- the element of a list, or the bit of a signal
abbrev pub element_at : ℕ → ℤ → Value-F Value Member → Checked Value
element_at line k (Value-F.Items vs) = item line vs k
element_at line k (Value-F.Taken (taken.Signal r)) = and_then (bit line r k) signal_value
element_at line k (Value-F.Taken (taken.FarSignal r)) = and_then (bit line r k) far_value
element_at line k _ = Err (WrongKind line)

-- `x[k]`
unfoldable pub element : ℕ → Value → ℤ → Checked Value
element line v k = element_at line k (out-Value v)

-- the slice of a signal
abbrev pub slice_at : ℕ → ℤ → ℤ → Value-F Value Member → Checked Value
slice_at line lo hi (Value-F.Taken (taken.Signal r)) = and_then (bits_between line r lo hi) signal_value
slice_at line lo hi (Value-F.Taken (taken.FarSignal r)) = and_then (bits_between line r lo hi) far_value
slice_at line lo hi _ = Err (WrongKind line)

-- `x[lo:hi]`
unfoldable pub slice : ℕ → Value → ℤ → ℤ → Checked Value
slice line v lo hi = slice_at line lo hi (out-Value v)
