-- Calls of types, and the values that a place of several types takes.
use Rattle.std.specs.Prelude.{ℕ, ◌==◌, ℤ, Bool, if◌then◌else◌, List, [], ◌∷◌, ◌++◌, map, length, slice_get, Option, Some, None}
use Rattle.pm_bits.specs.Word.{Word}
use Rattle.pm_design.specs.declared.body.Ex.{Ex}
use Rattle.pm_design.specs.declared.body.Ex.TheVariants as ex
use Rattle.pm_design.specs.declared.connection.Callee.{Callee}
use Rattle.pm_design.specs.declared.signal.Field.{Field}
use Rattle.pm_design.specs.declared.signal.Shape.{Shape}
use Rattle.pm_values.specs.declared.reference.ValueType.{ValueType}
use Rattle.pm_elab.specs.Values.{bits_of, literal_of}
use Rattle.pm_typing.specs.declared.fault.TypeFault.TheVariants.{WidthMismatch, ConstRange, NotAllowedHere}
use Rattle.pm_typing.specs.declared.operand.Operand.{Operand}
use Rattle.pm_typing.specs.Counted.{Counted, ◌>>=◌, ◌>>◌, pure, fail, lift, node}
use Rattle.pm_typing.specs.Functions.{only_integer}
use Rattle.pm_typing.specs.Operands.{constant, fitted}
use Rattle.pm_typing.specs.Sites.{Scope}
use Rattle.pm_typing.specs.Things as things
use Rattle.pm_typing.specs.Things.{Thing}

-- ---- constants `BitsN( c )`

-- the constant that there is, or else a literal out of range
abbrev pub literal_if : ℕ → ℕ → Option Word → Counted Thing
literal_if line width (Some w) = node >> pure (things.value (ex.Const w) (bits_of width))
literal_if line width None = fail (ConstRange line)

-- the constant that a literal is, which may have more than 63 bits
unfoldable pub literal_constant : ℕ → ℕ → ℕ → Counted Thing
literal_constant line width n = literal_if line width (literal_of width n)

-- an integer as a constant of a width
unfoldable pub constant_thing : ℕ → ℕ → ℤ → Counted Thing
constant_thing line width n = constant line width n >>= (λ e. pure (things.value e (bits_of width)))

-- the constant of a width that the one argument, an integer, is
unfoldable pub constant_call : ℕ → ℕ → Bool → List Operand → Counted Thing
constant_call line width named xs =
    if named then fail (NotAllowedHere line) else lift (only_integer line xs) >>= (λ n. constant_thing line width n)

-- ---- values for places of several types

-- expressions that fit the types, one for each, behind those that stand
unfoldable pub fitted_from : ℕ → List Ex → List ValueType → List Operand → Counted (List Ex)
fitted_from line done (ty ∷ tys) (x ∷ xs) = fitted line ty x >>= (λ e. fitted_from line (done ++ e ∷ []) tys xs)
fitted_from line done _ _ = pure done

-- ---- bitstructs

-- the type of a field
abbrev pub field_type : Field → ValueType
field_type f = record { width = f.width; shape = f.shape }

-- the types of the fields
abbrev pub types_of_shape : Option Shape → List ValueType
types_of_shape (Some shape) = map field_type shape.fields
types_of_shape None = []

-- the types of a bitstruct's fields
unfoldable pub field_types : Scope → ℕ → List ValueType
field_types scope k = types_of_shape (slice_get scope.design.design.shapes k)

-- a bitstruct of values that fit its fields
unfoldable pub packed : ℕ → ValueType → List ValueType → List Operand → Counted Thing
packed line ty fields xs = fitted_from line [] fields xs >>= (λ es. node >> pure (things.value (ex.Cat es) ty))

-- a bitstruct has a value for each field
unfoldable pub struct_value : ℕ → ValueType → List ValueType → Bool → List Operand → Counted Thing
struct_value line ty fields named xs =
    if named then fail (NotAllowedHere line)
    else (if length xs == length fields then packed line ty fields xs else fail (WidthMismatch line))

-- ---- `rdy`

-- whether a method is ready, which takes no argument
unfoldable pub ready_call : ℕ → Callee → Bool → Counted Thing
ready_call line c bare = if bare then node >> pure (things.value (ex.Ready c) (bits_of 1)) else fail (NotAllowedHere line)
