-- Operators on values.
use Rattle.std.specs.Prelude.{ℕ, ◌==◌, ◌^◌, ℤ, pos, Bool, true, ◌&&◌, nat_lt, if◌then◌else◌, Option, Some, None, Ok, Err}
use Rattle.pm_bits.specs.declared.operator.Op.{Op}
use Rattle.pm_bits.specs.declared.operator.Op.TheVariants as made_op
use Rattle.pm_design.specs.declared.body.Ex.{Ex}
use Rattle.pm_design.specs.declared.body.Ex.TheVariants as ex
use Rattle.pm_syn.specs.declared.expression.BinaryOp.{BinaryOp}
use Rattle.pm_syn.specs.declared.expression.BinaryOp.TheVariants as op
use Rattle.pm_syn.specs.declared.expression.UnaryOp.{UnaryOp}
use Rattle.pm_syn.specs.declared.expression.UnaryOp.TheVariants as unary
use Rattle.pm_values.specs.declared.reference.ValueType.{ValueType}
use Rattle.pm_values.specs.Integers.{operated, applied}
use Rattle.pm_elab.specs.Values.{bits_of}
use Rattle.pm_typing.specs.declared.fault.TypeFault.TheVariants.{WidthMismatch, ConstRange, NotAllowedHere}
use Rattle.pm_typing.specs.declared.operand.Operand.{Operand}
use Rattle.pm_typing.specs.declared.operand.Operand.TheVariants as operands
use Rattle.pm_typing.specs.Counted.{Checked, Counted, ◌>>=◌, ◌>>◌, pure, fail, lift, node}
use Rattle.pm_typing.specs.Operands.{is_bits, fitted}
use Rattle.pm_typing.specs.Things as things
use Rattle.pm_typing.specs.Things.{Thing}

-- a literal has at most 63 bits
unfoldable pub literal : ℕ → ℕ → Checked Thing
literal line n = if nat_lt n (2 ^ 63) then Ok (things.integer (pos n)) else Err (ConstRange line)

-- the integer that there is, or else a result out of range
abbrev pub integer_or : ℕ → Option ℤ → Checked Thing
integer_or line (Some n) = Ok (things.integer n)
integer_or line None = Err (ConstRange line)

-- ---- operators between Bits

-- the operator that typed bodies have for it; quotients, remainders and powers have none
abbrev pub op_at : BinaryOp → Option Op
op_at op.Or = Some made_op.Or
op_at op.And = Some made_op.And
op_at op.Eq = Some made_op.Eq
op_at op.Ne = Some made_op.Ne
op_at op.Lt = Some made_op.Lt
op_at op.Le = Some made_op.Le
op_at op.Gt = Some made_op.Gt
op_at op.Ge = Some made_op.Ge
op_at op.BitOr = Some made_op.Or
op_at op.BitXor = Some made_op.Xor
op_at op.BitAnd = Some made_op.And
op_at op.Shl = Some made_op.Shl
op_at op.Shr = Some made_op.Shr
op_at op.Add = Some made_op.Add
op_at op.Sub = Some made_op.Sub
op_at op.Mul = Some made_op.Mul
op_at op.FloorDiv = None
op_at op.Mod = None
op_at op.Pow = None

-- the operator that typed bodies have for it
unfoldable pub op_of : BinaryOp → Option Op
op_of = op_at

-- the operator takes operands of the type: `and` and `or` single bits, `==` and `!=` all types, the others Bits
abbrev pub suits_at : BinaryOp → ValueType → Bool
suits_at op.Or ty = is_bits ty && ty.width == 1
suits_at op.And ty = is_bits ty && ty.width == 1
suits_at op.Eq ty = true
suits_at op.Ne ty = true
suits_at _ ty = is_bits ty

-- the operator takes operands of the type
unfoldable pub suits : BinaryOp → ValueType → Bool
suits = suits_at

-- the type of a result by the operands' type: comparisons give one bit
abbrev pub result_at : Op → ValueType → ValueType
result_at made_op.Eq ty = bits_of 1
result_at made_op.Ne ty = bits_of 1
result_at made_op.Lt ty = bits_of 1
result_at made_op.Le ty = bits_of 1
result_at made_op.Gt ty = bits_of 1
result_at made_op.Ge ty = bits_of 1
result_at _ ty = ty

-- the type of a result by the operands' type
unfoldable pub result_type : Op → ValueType → ValueType
result_type = result_at

-- an operation on two expressions of one type
unfoldable pub combined : Op → Ex → Ex → ValueType → Counted Thing
combined o e f ty = node >> pure (things.value (ex.Bin o e f) (result_type o ty))

-- two values, of which at least one has a width that an integer takes
abbrev pub joined_at : ℕ → Op → ValueType → Operand → Operand → Counted Thing
joined_at line o ty x y = fitted line ty x >>= (λ e. fitted line ty y >>= (λ f. combined o e f ty))

-- two values of a type that the operator takes
unfoldable pub joined : ℕ → BinaryOp → Op → ValueType → Operand → Operand → Counted Thing
joined line b o ty x y = if suits b ty then joined_at line o ty x y else fail (WidthMismatch line)

-- an operation on values of a type, if typed bodies have its operator
abbrev pub operation_if : ℕ → BinaryOp → Option Op → ValueType → Operand → Operand → Counted Thing
operation_if line b (Some o) ty x y = joined line b o ty x y
operation_if line b None ty x y = fail (NotAllowedHere line)

-- an operation on two values: on integers alone it is computed
abbrev pub operation_at : ℕ → BinaryOp → Operand → Operand → Counted Thing
operation_at line b (operands.Int m) (operands.Int n) = lift (integer_or line (operated b m n))
operation_at line b (operands.Int m) (operands.Bits f ty) = operation_if line b (op_of b) ty (operands.Int m) (operands.Bits f ty)
operation_at line b (operands.Bits e ty) y = operation_if line b (op_of b) ty (operands.Bits e ty) y

-- an operation on two values
unfoldable pub operation : ℕ → BinaryOp → Operand → Operand → Counted Thing
operation = operation_at

-- ---- operators before a value

-- `not` of one bit, `~` of Bits
abbrev pub complement_suits : UnaryOp → ValueType → Bool
complement_suits unary.Not ty = is_bits ty && ty.width == 1
complement_suits _ ty = is_bits ty

-- the complement of an expression
unfoldable pub complement : ℕ → UnaryOp → Ex → ValueType → Counted Thing
complement line u e ty = if complement_suits u ty then node >> pure (things.value (ex.Not e) ty) else fail (WidthMismatch line)

-- an operator before an expression: signs are for integers alone
abbrev pub applied_bits : ℕ → UnaryOp → Ex → ValueType → Counted Thing
applied_bits line unary.Minus e ty = fail (NotAllowedHere line)
applied_bits line unary.Plus e ty = fail (NotAllowedHere line)
applied_bits line u e ty = complement line u e ty

-- an operator before a value
abbrev pub application_at : ℕ → UnaryOp → Operand → Counted Thing
application_at line u (operands.Int n) = lift (integer_or line (applied u n))
application_at line u (operands.Bits e ty) = applied_bits line u e ty

-- an operator before a value
unfoldable pub application : ℕ → UnaryOp → Operand → Counted Thing
application = application_at

-- ---- conditional expressions

-- one of two expressions of one type
unfoldable pub selected : Ex → Ex → Ex → ValueType → Counted Thing
selected c e f ty = node >> pure (things.value (ex.Cond c e f) ty)

-- one of two values of a type
unfoldable pub selection : ℕ → Ex → ValueType → Operand → Operand → Counted Thing
selection line c ty x y = fitted line ty x >>= (λ e. fitted line ty y >>= (λ f. selected c e f ty))

-- one of two values, of which at least one has a width that an integer takes
abbrev pub either_at : ℕ → Ex → Operand → Operand → Counted Thing
either_at line c (operands.Int m) (operands.Int n) = fail (WidthMismatch line)
either_at line c (operands.Int m) (operands.Bits f ty) = selection line c ty (operands.Int m) (operands.Bits f ty)
either_at line c (operands.Bits e ty) y = selection line c ty (operands.Bits e ty) y

-- one of two values
unfoldable pub either : ℕ → Ex → Operand → Operand → Counted Thing
either = either_at
