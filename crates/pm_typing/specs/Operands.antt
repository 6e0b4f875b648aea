-- Things as values: integers, which take their width from their place, and expressions of a type.
use Rattle.std.specs.Prelude.{ℕ, ◌==◌, ◌||◌, ℤ, Bool, true, false, ◌&&◌, nat_eq, nat_lt, if◌then◌else◌, is_some, List, map, slice_get, Option, Some, None, Ok, Err}
use Rattle.std.specs.List.{list_all}
use Rattle.std.specs.Option.{option_eq}
use Rattle.pm_bits.specs.Word.{Word}
use Rattle.pm_bits.specs.declared.operator.Op.TheVariants as op
use Rattle.pm_design.specs.declared.body.Ex.{Ex}
use Rattle.pm_design.specs.declared.body.Ex.TheVariants as ex
use Rattle.pm_design.specs.declared.connection.Part.{Part}
use Rattle.pm_values.specs.declared.reference.Reference.{Reference}
use Rattle.pm_values.specs.declared.reference.ValueType.{ValueType}
use Rattle.pm_elab.specs.Values.{bits_of, constant_of}
use Rattle.pm_typing.specs.declared.fault.TypeFault.TheVariants.{WidthMismatch, ConstRange, NotAllowedHere}
use Rattle.pm_typing.specs.declared.operand.Operand.{Operand}
use Rattle.pm_typing.specs.declared.operand.Operand.TheVariants as operands
use Rattle.pm_typing.specs.declared.scope.BodySort.{BodySort}
use Rattle.pm_typing.specs.declared.scope.BodySort.TheVariants as sort
use Rattle.pm_typing.specs.Counted.{Checked, Counted, ◌>>=◌, ◌>>◌, pure, fail, lift, node}
use Rattle.pm_typing.specs.Names.{most_items}
use Rattle.pm_typing.specs.References.{type_of, element_type}
use Rattle.pm_typing.specs.Sites.{Scope}
use Rattle.pm_typing.specs.Things as things
use Rattle.pm_typing.specs.Things.{Thing}

-- ---- types

-- Bits, and no bitstruct
abbrev pub is_bits : ValueType → Bool
is_bits ty = if is_some ty.shape then false else true

-- the types are one type: a bitstruct equals only itself
abbrev pub same_type : ValueType → ValueType → Bool
same_type a b = a.width == b.width && option_eq nat_eq a.shape b.shape

-- the types of values
abbrev pub same_types : List ValueType → ValueType → Bool
same_types tys ty = list_all (λ other. same_type other ty) tys

-- ---- what a body may read

-- bodies of this sort see the ports of children
abbrev pub sees_children : BodySort → Bool
sees_children sort.Method = false
sees_children _ = true

-- a body may read own signals; a block may read the ports of children too
abbrev pub may_read : BodySort → Reference → Bool
may_read s r = r.part.owner == 0 || sees_children s

-- a body may read all of them
unfoldable pub may_read_all : BodySort → List Reference → Bool
may_read_all s rs = list_all (may_read s) rs

-- ---- values

-- an expression of a type, which is a node more
abbrev pub made : Ex → ValueType → Counted Operand
made e ty = node >> pure (operands.Bits e ty)

-- what a signal carries
unfoldable pub signal_read : Scope → ℕ → Reference → Counted Operand
signal_read scope line r = if may_read scope.sort r then made (ex.Get r.part) (type_of r) else fail (NotAllowedHere line)

-- the parts of references
unfoldable pub parts_of : List Reference → List Part
parts_of = map (λ r. r.part)

-- what the element carries that an index chooses
unfoldable pub pick_read : Scope → ℕ → Ex → List Reference → Counted Operand
pick_read scope line e rs =
    if may_read_all scope.sort rs then made (ex.Pick e (parts_of rs)) (element_type rs) else fail (NotAllowedHere line)

-- the type that is there
abbrev pub type_or_none : Option ValueType → ValueType
type_or_none (Some ty) = ty
type_or_none None = bits_of 0

-- the type of a number, or of a deque's items
unfoldable pub state_type : Scope → ℕ → ValueType
state_type scope k = type_or_none (slice_get scope.raw.states k)

-- what a number holds; a deque is no value
unfoldable pub number_read : Scope → ℕ → ℕ → Counted Operand
number_read scope line k =
    if nat_lt 0 (most_items scope k) then fail (NotAllowedHere line) else made (ex.Number k) (state_type scope k)

-- a thing as a value
abbrev pub value_at : Scope → ℕ → Thing → Counted Operand
value_at scope line (things.integer n) = pure (operands.Int n)
value_at scope line (things.constant w) = made (ex.Const w) (bits_of w.width)
value_at scope line (things.signal r) = signal_read scope line r
value_at scope line (things.temporary t lo ty) = made (ex.Temp t lo ty.width) ty
value_at scope line (things.pick e rs) = pick_read scope line e rs
value_at scope line (things.state k) = number_read scope line k
value_at scope line (things.value e ty) = pure (operands.Bits e ty)
value_at scope line _ = fail (NotAllowedHere line)

-- a thing as a value
unfoldable pub value_of : Scope → ℕ → Thing → Counted Operand
value_of = value_at

-- an expression and its type
pub record Typed : Type 0 where
  pub expression : Ex
  pub ty : ValueType

-- an expression and its type
abbrev pub typed : Ex → ValueType → Typed
typed e ty = record { expression = e; ty = ty }

-- a value that has a width by itself
abbrev pub bits_at : ℕ → Operand → Checked Typed
bits_at line (operands.Int n) = Err (WidthMismatch line)
bits_at line (operands.Bits e ty) = Ok (typed e ty)

-- a value that has a width by itself
unfoldable pub bits_in : ℕ → Operand → Checked Typed
bits_in = bits_at

-- a thing as a value that has a width by itself
unfoldable pub bits_value : Scope → ℕ → Thing → Counted Typed
bits_value scope line t = value_of scope line t >>= (λ x. lift (bits_in line x))

-- ---- widths of integers

-- the constant that there is, or else an integer out of range
abbrev pub constant_if : ℕ → Option Word → Counted Ex
constant_if line (Some w) = node >> pure (ex.Const w)
constant_if line None = fail (ConstRange line)

-- an integer as a constant of a width
unfoldable pub constant : ℕ → ℕ → ℤ → Counted Ex
constant line width n = constant_if line (constant_of width n)

-- a value for a place of a type: an integer takes the width of Bits
abbrev pub fitted_at : ℕ → ValueType → Operand → Counted Ex
fitted_at line ty (operands.Int n) = if is_bits ty then constant line ty.width n else fail (WidthMismatch line)
fitted_at line ty (operands.Bits e other) = if same_type other ty then pure e else fail (WidthMismatch line)

-- a value for a place of a type
unfoldable pub fitted : ℕ → ValueType → Operand → Counted Ex
fitted = fitted_at

-- ---- conditions

-- an expression of more than one bit is true where it isn't 0
unfoldable pub truth : Ex → ℕ → Counted Ex
truth e width =
    if width == 1 then pure e
    else node >> (node >> pure (ex.Bin op.Ne e (ex.Const (record { width = width; value = 0 }))))

-- an expression as a condition, which is Bits
unfoldable pub condition : ℕ → Ex → ValueType → Counted Ex
condition line e ty = if is_bits ty then truth e ty.width else fail (WidthMismatch line)
