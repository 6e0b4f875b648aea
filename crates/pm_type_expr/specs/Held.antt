-- What pairs of an expression and a type stand for.
use Rattle.std.specs.Prelude.{ℕ, if◌then◌else◌, is_some, List, [], ◌∷◌, Option, Some, None, Result, Ok, Err}
use Rattle.pm_bits.specs.Word.{Word}
use Rattle.pm_design.specs.declared.body.Ex.{Ex}
use Rattle.pm_elab.specs.Values.{is_width}
use Rattle.pm_syn.specs.declared.expression.Arg.{Arg}
use Rattle.pm_syn.specs.declared.expression.Expr.{Expr}
use Rattle.pm_values.specs.declared.reference.ValueType.{ValueType}
use Rattle.pm_typing.specs.declared.fault.TypeFault.{TypeFault}
use Rattle.pm_typing.specs.Functions.{Joined}
use Rattle.pm_typing.specs.Operands.{Typed, typed}
use Rattle.pm_type_expr.specs.declared.functions.Joined.{Joined as HeldParts}

-- the outcome of a function that gives an expression and its type
abbrev pub typed_in : Result (Ex × ValueType) TypeFault → Result Typed TypeFault
typed_in (Ok r) = Ok (typed r.0 r.1)
typed_in (Err e) = Err e

-- zero in a width, if it is 1 to 128
abbrev pub zero : ℕ → Option Word
zero width = if is_width width then Some (record { width = width; value = 0 }) else None

-- the expressions that the code joins
abbrev pub joined_of : HeldParts → Joined
joined_of j = record { parts = j.parts; width = j.width; plain = j.plain }

-- the outcome of a function that joins expressions
abbrev pub joined_in : Result HeldParts TypeFault → Result Joined TypeFault
joined_in (Ok j) = Ok (joined_of j)
joined_in (Err e) = Err e

-- the one argument, which names no parameter
abbrev pub lone_of : List Arg → Option Expr
lone_of (a ∷ []) = if is_some a.name then None else Some a.value
lone_of _ = None
