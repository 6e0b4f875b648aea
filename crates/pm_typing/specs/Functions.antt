-- The functions that bodies may call, on their arguments.
use Rattle.std.specs.Prelude.{ℕ, ◌+◌, ℤ, pos, negsuc, Bool, true, ◌&&◌, nat_lt, nat_le, if◌then◌else◌, List, [], ◌∷◌, ◌++◌, length, Option, Some, None, Ok, Err}
use Rattle.pm_bits.specs.declared.operator.Fold.{Fold}
use Rattle.pm_design.specs.declared.body.Ex.{Ex}
use Rattle.pm_design.specs.declared.body.Ex.TheVariants as ex
use Rattle.pm_design.specs.Widths.{log_of}
use Rattle.pm_values.specs.declared.reference.ValueType.{ValueType}
use Rattle.pm_values.specs.Integers.{ceiling_log}
use Rattle.pm_elab.specs.Values.{bits_of, is_width}
use Rattle.pm_typing.specs.declared.fault.TypeFault.TheVariants.{WidthMismatch, ConstRange, NotAllowedHere}
use Rattle.pm_typing.specs.declared.operand.Operand.{Operand}
use Rattle.pm_typing.specs.declared.operand.Operand.TheVariants as operands
use Rattle.pm_typing.specs.declared.thing.BodyFunction.{BodyFunction}
use Rattle.pm_typing.specs.declared.thing.BodyFunction.TheVariants as functions
use Rattle.pm_typing.specs.declared.thing.Resizing.{Resizing}
use Rattle.pm_typing.specs.declared.thing.Resizing.TheVariants as resizing
use Rattle.pm_typing.specs.Counted.{Checked, and_then, Counted, ◌>>=◌, ◌>>◌, pure, fail, lift, node}
use Rattle.pm_typing.specs.Names.{most_items}
use Rattle.pm_typing.specs.Operands.{Typed, is_bits, bits_in}
use Rattle.pm_typing.specs.Sites.{Scope}
use Rattle.pm_typing.specs.Things as things
use Rattle.pm_typing.specs.Things.{Thing}

-- ---- concatenations

-- expressions of Bits from left to right, behind those that stand: with their width in all, if none is a bitstruct
pub record Joined : Type 0 where
  pub parts : List Ex
  pub width : ℕ
  pub plain : Bool

-- one expression more
abbrev pub with_part : Joined → Typed → Joined
with_part j e = record { parts = j.parts ++ e.expression ∷ []; width = j.width + e.ty.width; plain = j.plain && is_bits e.ty }

-- one value more, which has a width by itself
abbrev pub part_added : ℕ → Joined → Operand → Checked Joined
part_added line j x = and_then (bits_in line x) (λ e. Ok (with_part j e))

-- expressions from left to right, behind those that stand
unfoldable pub parts_from : ℕ → Joined → List Operand → Checked Joined
parts_from line j [] = Ok j
parts_from line j (x ∷ xs) = and_then (part_added line j x) (λ k. parts_from line k xs)

-- nothing yet
abbrev pub no_parts : Joined
no_parts = record { parts = []; width = 0; plain = true }

-- a concatenation of at most 128 bits
unfoldable pub concatenated : ℕ → Joined → Counted Thing
concatenated line j =
    if j.plain && nat_le j.width 128 then node >> pure (things.value (ex.Cat j.parts) (bits_of j.width)) else fail (WidthMismatch line)

-- `concat( a, b, .. )`
abbrev pub concat_at : ℕ → List Operand → Counted Thing
concat_at line [] = fail (NotAllowedHere line)
concat_at line xs = lift (parts_from line no_parts xs) >>= (λ j. concatenated line j)

-- `concat( a, b, .. )`
unfoldable pub concat : ℕ → List Operand → Counted Thing
concat = concat_at

-- ---- widths

-- the width may be changed to n: extended to at most 128 bits, or cut to at least one
abbrev pub fits_resizing : Resizing → ℕ → ℕ → Bool
fits_resizing resizing.Zeros width n = nat_le width n && nat_le n 128
fits_resizing resizing.Signs width n = nat_le width n && nat_le n 128
fits_resizing resizing.Cut width n = nat_le 1 n && nat_le n width

-- Bits whose width may be changed to n
abbrev pub fits_type : Resizing → ValueType → ℕ → Bool
fits_type how ty n = is_bits ty && fits_resizing how ty.width n

-- an expression of a changed width
abbrev pub resized : Resizing → Ex → ℕ → Ex
resized resizing.Zeros e n = ex.Zext e n
resized resizing.Signs e n = ex.Sext e n
resized resizing.Cut e n = ex.Trunc e n

-- an expression of a width n
abbrev pub resized_to : ℕ → Resizing → Typed → ℤ → Counted Thing
resized_to line how e (pos n) =
    if fits_type how e.ty n
    then node >> pure (things.value (resized how e.expression n) (bits_of n))
    else fail (WidthMismatch line)
resized_to line how e (negsuc n) = fail (WidthMismatch line)

-- an expression of a width, which is an integer
abbrev pub resized_by : ℕ → Resizing → Typed → Operand → Counted Thing
resized_by line how e (operands.Int n) = resized_to line how e n
resized_by line how e (operands.Bits f ty) = if is_bits e.ty then fail (NotAllowedHere line) else fail (WidthMismatch line)

-- an expression of a width, which is an integer
unfoldable pub resizing_to : ℕ → Resizing → Typed → Operand → Counted Thing
resizing_to = resized_by

-- `zext( a, n )`, `sext( a, n )` and `trunc( a, n )`
abbrev pub resize_at : ℕ → Resizing → List Operand → Counted Thing
resize_at line how (x ∷ n ∷ []) = lift (bits_in line x) >>= (λ e. resizing_to line how e n)
resize_at line how _ = fail (NotAllowedHere line)

-- `zext( a, n )`, `sext( a, n )` and `trunc( a, n )`
unfoldable pub resize : ℕ → Resizing → List Operand → Counted Thing
resize = resize_at

-- ---- reductions

-- all bits of an expression folded into one
unfoldable pub folded : ℕ → Fold → Typed → Counted Thing
folded line f e =
    if is_bits e.ty then node >> pure (things.value (ex.Fold f e.expression) (bits_of 1)) else fail (WidthMismatch line)

-- `reduce_and( a )` and the like
abbrev pub reduce_at : ℕ → Fold → List Operand → Counted Thing
reduce_at line f (x ∷ []) = lift (bits_in line x) >>= (λ e. folded line f e)
reduce_at line f _ = fail (NotAllowedHere line)

-- `reduce_and( a )` and the like
unfoldable pub reduce : ℕ → Fold → List Operand → Counted Thing
reduce = reduce_at

-- ---- functions of integers and lists

-- the logarithm that there is
abbrev pub log_if : ℕ → Option ℕ → Checked Thing
log_if line (Some k) = Ok (things.integer (pos k))
log_if line None = Err (ConstRange line)

-- the integer that a value is
abbrev pub integer_at : ℕ → Operand → Checked ℤ
integer_at line (operands.Int n) = Ok n
integer_at line (operands.Bits e ty) = Err (NotAllowedHere line)

-- the integer that the one argument is
abbrev pub only_integer_at : ℕ → List Operand → Checked ℤ
only_integer_at line (x ∷ []) = integer_at line x
only_integer_at line _ = Err (NotAllowedHere line)

-- the integer that the one argument is
unfoldable pub only_integer : ℕ → List Operand → Checked ℤ
only_integer = only_integer_at

-- `clog2( n )`
unfoldable pub log_call : ℕ → List Operand → Checked Thing
log_call line xs = and_then (only_integer line xs) (λ n. log_if line (ceiling_log n))

-- Bits of a width of 1 to 128
abbrev pub type_at : ℕ → ℤ → Checked Thing
type_at line (pos n) = if is_width n then Ok (things.of_type (bits_of n)) else Err (WidthMismatch line)
type_at line (negsuc n) = Err (WidthMismatch line)

-- `mk_bits( n )`
unfoldable pub bits_type_call : ℕ → List Operand → Checked Thing
bits_type_call line xs = and_then (only_integer line xs) (λ n. type_at line n)

-- the width that holds each number of items up to the most
unfoldable pub count_width : ℕ → ℕ
count_width most = log_of (most + 1)

-- how many items a deque holds, as Bits that hold each such number; a number has no length
unfoldable pub count_of : Scope → ℕ → ℕ → Counted Thing
count_of scope line k =
    if nat_lt 0 (most_items scope k)
    then node >> pure (things.value (ex.Count k) (bits_of (count_width (most_items scope k))))
    else fail (NotAllowedHere line)

-- a length as an integer
abbrev pub length_thing : ℕ → Checked Thing
length_thing n = Ok (things.integer (pos n))

-- the length of a list or of a deque
abbrev pub length_at : Scope → ℕ → Thing → Counted Thing
length_at scope line (things.items whose vs) = lift (length_thing (length vs))
length_at scope line (things.state k) = count_of scope line k
length_at scope line _ = fail (NotAllowedHere line)

-- the length of a list or of a deque
unfoldable pub length_of : Scope → ℕ → Thing → Counted Thing
length_of = length_at

-- ---- all functions

-- a function on arguments; `len` takes more than values
abbrev pub called_at : BodyFunction → ℕ → List Operand → Counted Thing
called_at functions.Concat line xs = concat line xs
called_at functions.Zext line xs = resize line resizing.Zeros xs
called_at functions.Sext line xs = resize line resizing.Signs xs
called_at functions.Trunc line xs = resize line resizing.Cut xs
called_at (functions.Reduce f) line xs = reduce line f xs
called_at functions.CeilingLog line xs = lift (log_call line xs)
called_at functions.Length line xs = fail (NotAllowedHere line)
called_at functions.MakeBits line xs = lift (bits_type_call line xs)

-- a function on arguments, which name no parameters
unfoldable pub called : BodyFunction → ℕ → Bool → List Operand → Counted Thing
called f line named xs = if named then fail (NotAllowedHere line) else called_at f line xs
