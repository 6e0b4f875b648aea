-- Fields, bits and slices of signals and temporaries.
use Rattle.std.specs.Prelude.{ℕ, ◌+◌, ◌-◌, ℤ, pos, negsuc, ◌&&◌, nat_lt, nat_le, if◌then◌else◌, List, [], ◌∷◌, map, codes, Option, Some, None, Ok, Err}
use Rattle.std.specs.Str.{bytes_eq}
use Rattle.pm_design.specs.declared.body.Ex.{Ex}
use Rattle.pm_design.specs.declared.signal.Field.{Field}
use Rattle.pm_design.specs.declared.signal.Shape.{Shape}
use Rattle.pm_values.specs.declared.reference.Form.TheVariants as form
use Rattle.pm_values.specs.declared.reference.Reference.{Reference}
use Rattle.pm_values.specs.declared.reference.ValueType.{ValueType}
use Rattle.pm_elab.specs.Attributes.{field_of_shape, shape_at, field_part}
use Rattle.pm_elab.specs.Values.{bits_of}
use Rattle.pm_typing.specs.declared.fault.TypeFault.TheVariants.{MaybeUnbound, NotAllowedHere, IndexRange}
use Rattle.pm_typing.specs.declared.thing.Cut.{Cut}
use Rattle.pm_typing.specs.Counted.{Checked, and_then}
use Rattle.pm_typing.specs.Names.{attribute_in, child_attribute, member_thing, state_attribute}
use Rattle.pm_typing.specs.Sites.{Scope}
use Rattle.pm_typing.specs.Things as things
use Rattle.pm_typing.specs.Things.{Thing}

-- the type of what a reference names
abbrev pub type_of : Reference → ValueType
type_of r = record { width = r.part.width; shape = r.shape }

-- the type of the elements of a list of references
abbrev pub element_type : List Reference → ValueType
element_type [] = bits_of 0
element_type (r ∷ rs) = type_of r

-- ---- fields

-- the field of a type
abbrev pub field_of : List Shape → ValueType → List ℕ → Option Field
field_of shapes ty name = field_of_shape (shape_at shapes ty.shape) name

-- a field of a signal
abbrev pub signal_field : ℕ → Reference → Option Field → Checked Thing
signal_field line r (Some f) = Ok (things.signal (field_part r f))
signal_field line r None = Err (MaybeUnbound line)

-- a field of a temporary
abbrev pub temporary_field : ℕ → ℕ → ℕ → Option Field → Checked Thing
temporary_field line t lo (Some f) = Ok (things.temporary t (lo + f.lo) (record { width = f.width; shape = f.shape }))
temporary_field line t lo None = Err (MaybeUnbound line)

-- a field of each element
unfoldable pub field_parts : Field → List Reference → List Reference
field_parts f = map (λ r. field_part r f)

-- the field of the element that an index chooses
abbrev pub pick_field : ℕ → Ex → List Reference → Option Field → Checked Thing
pick_field line e rs (Some f) = Ok (things.pick e (field_parts f rs))
pick_field line e rs None = Err (MaybeUnbound line)

-- ---- attributes

-- an attribute of a type is its width
unfoldable pub type_attribute : ℕ → ValueType → List ℕ → Checked Thing
type_attribute line ty name = if bytes_eq name (codes "nbits") then Ok (things.integer (pos ty.width)) else Err (MaybeUnbound line)

-- methods and caller ports have `rdy` alone
abbrev pub method_attribute : ℕ → Thing → List ℕ → Checked Thing
method_attribute line rdy name = if bytes_eq name (codes "rdy") then Ok rdy else Err (MaybeUnbound line)

-- an attribute of a thing
abbrev pub attribute_at : Scope → ℕ → List ℕ → Thing → Checked Thing
attribute_at scope line name things.own = attribute_in line None scope.raw name
attribute_at scope line name (things.child k) = child_attribute scope line k name
attribute_at scope line name (things.members whose ms) = member_thing line whose ms name
attribute_at scope line name (things.of_type ty) = type_attribute line ty name
attribute_at scope line name (things.state k) = state_attribute scope line k name
attribute_at scope line name (things.method c) = method_attribute line (things.ready c) name
attribute_at scope line name (things.signal r) = signal_field line r (field_of scope.design.design.shapes (type_of r) name)
attribute_at scope line name (things.temporary t lo ty) = temporary_field line t lo (field_of scope.design.design.shapes ty name)
attribute_at scope line name (things.pick e rs) =
    pick_field line e rs (field_of scope.design.design.shapes (element_type rs) name)
attribute_at scope line name (things.value e ty) = Err (NotAllowedHere line)
attribute_at scope line name _ = Err (MaybeUnbound line)

-- an attribute of a thing
unfoldable pub attribute : Scope → ℕ → List ℕ → Thing → Checked Thing
attribute = attribute_at

-- ---- bits and slices

-- the bits of a slice, at least one
abbrev pub slice_within : ℕ → ℤ → ℤ → Option Cut
slice_within width (pos lo) (pos hi) =
    if nat_lt lo hi && nat_le hi width then Some (record { lo = lo; width = hi - lo; form = form.Slice }) else None
slice_within width _ _ = None

-- the bits of a slice, at least one
unfoldable pub slice_range : ℕ → ℤ → ℤ → Option Cut
slice_range = slice_within

-- one bit
abbrev pub bit_within : ℕ → ℤ → Option Cut
bit_within width (pos k) = if nat_lt k width then Some (record { lo = k; width = 1; form = form.Bit }) else None
bit_within width (negsuc k) = None

-- one bit
unfoldable pub bit_range : ℕ → ℤ → Option Cut
bit_range = bit_within

-- some bits of what a reference names
abbrev pub cut_part : Cut → Reference → Reference
cut_part cut r =
    record r { part = record r.part { lo = r.part.lo + cut.lo; width = cut.width }; shape = None; form = cut.form }

-- some bits of each element
unfoldable pub cut_parts : Cut → List Reference → List Reference
cut_parts cut = map (cut_part cut)

-- how wide a thing is that has bits
abbrev pub width_at : ℕ → Thing → Checked ℕ
width_at line (things.signal r) = Ok r.part.width
width_at line (things.temporary t lo ty) = Ok ty.width
width_at line (things.pick e rs) = Ok (element_type rs).width
width_at line _ = Err (NotAllowedHere line)

-- how wide a thing is that has bits
unfoldable pub cut_width : ℕ → Thing → Checked ℕ
cut_width = width_at

-- some bits of a temporary
abbrev pub temporary_cut : ℕ → ℕ → Cut → Thing
temporary_cut t lo cut = things.temporary t (lo + cut.lo) (bits_of cut.width)

-- some bits of a thing
abbrev pub cut_at : ℕ → Cut → Thing → Checked Thing
cut_at line cut (things.signal r) = Ok (things.signal (cut_part cut r))
cut_at line cut (things.temporary t lo ty) = Ok (temporary_cut t lo cut)
cut_at line cut (things.pick e rs) = Ok (things.pick e (cut_parts cut rs))
cut_at line cut _ = Err (NotAllowedHere line)

-- some bits of a thing, if they lie within it
abbrev pub cut_if : ℕ → Option Cut → Thing → Checked Thing
cut_if line (Some cut) t = cut_at line cut t
cut_if line None t = Err (IndexRange line)

-- some bits of a thing, if they lie within it
unfoldable pub cut : ℕ → Option Cut → Thing → Checked Thing
cut = cut_if

-- `x[lo:hi]` with integer bounds
unfoldable pub slice : ℕ → ℤ → ℤ → Thing → Checked Thing
slice line lo hi t = and_then (cut_width line t) (λ width. cut line (slice_range width lo hi) t)

-- a slice has integer bounds
abbrev pub slice_by : ℕ → Thing → Thing → Thing → Checked Thing
slice_by line (things.integer lo) (things.integer hi) t = slice line lo hi t
slice_by line _ _ t = Err (NotAllowedHere line)

-- a slice has integer bounds
unfoldable pub sliced : ℕ → Thing → Thing → Thing → Checked Thing
sliced = slice_by

-- the bit `x[k]`
unfoldable pub bit : ℕ → ℤ → Thing → Checked Thing
bit line k t = and_then (cut_width line t) (λ width. cut line (bit_range width k) t)
