-- What an expression is while it is typed.
use Rattle.std.specs.Prelude.{ℕ, ℤ, List, Option, Result, Ok, Err}
use Rattle.pm_bits.specs.Word.{Word}
use Rattle.pm_design.specs.declared.body.Ex.{Ex}
use Rattle.pm_design.specs.declared.connection.Callee.{Callee}
use Rattle.pm_values.specs.declared.reference.Reference.{Reference}
use Rattle.pm_values.specs.declared.reference.ValueType.{ValueType}
use Rattle.pm_values.specs.declared.value.Member.{Member}
use Rattle.pm_values.specs.declared.value.Value.{Value}
use Rattle.pm_typing.specs.declared.fault.TypeFault.{TypeFault}
use Rattle.pm_typing.specs.declared.operand.Change.{Change}
use Rattle.pm_typing.specs.declared.operand.Effect.{Effect}
use Rattle.pm_typing.specs.declared.thing.BodyFunction.{BodyFunction}
use Rattle.pm_typing.specs.declared.thing.Right.{Right as LentRight}
use Rattle.pm_typing.specs.declared.thing.Right.TheVariants as right
use Rattle.pm_typing.specs.declared.thing.Thing.{Thing as LentThing}
use Rattle.pm_typing.specs.declared.thing.Thing.TheVariants as lent

-- what an expression is, before its place says what it is needed for; lists and interfaces are those of the component
-- itself, or of its child of a number
pub data Thing : Type 0 where
  integer : ℤ → Thing
  own : Thing
  of_type : ValueType → Thing
  constant : Word → Thing
  class : Thing
  items : Option ℕ → List Value → Thing
  members : Option ℕ → List Member → Thing
  signal : Reference → Thing
  temporary : ℕ → ℕ → ValueType → Thing
  pick : Ex → List Reference → Thing
  child : ℕ → Thing
  state : ℕ → Thing
  method : Callee → Thing
  change : ℕ → Change → Thing
  ready : Callee → Thing
  function : BodyFunction → Thing
  value : Ex → ValueType → Thing

-- the thing that the code's references lead to
abbrev pub thing_of : LentThing → Thing
thing_of (lent.Int n) = integer n
thing_of lent.Own = own
thing_of (lent.Type t) = of_type t
thing_of (lent.Const w) = constant w
thing_of lent.Class = class
thing_of (lent.Items c vs) = items c vs.now
thing_of (lent.Members c ms) = members c ms.now
thing_of (lent.Signal r) = signal r
thing_of (lent.Temp t lo ty) = temporary t lo ty
thing_of (lent.Pick e rs) = pick e rs
thing_of (lent.Child k) = child k
thing_of (lent.State k) = state k
thing_of (lent.Method c) = method c
thing_of (lent.Change k c) = change k c
thing_of (lent.Ready c) = ready c
thing_of (lent.Function f) = function f
thing_of (lent.Bits e ty) = value e ty

-- what stands by itself, or as the whole right side of an assignment: a thing, or a call that may change states
pub data Right : Type 0 where
  plain : Thing → Right
  effect : Effect → Right

-- what the code's references lead to
abbrev pub right_of : LentRight → Right
right_of (right.Plain t) = plain (thing_of t)
right_of (right.Effect e) = effect e

-- the outcome of a function that gives a thing
abbrev pub thing_in : Result LentThing TypeFault → Result Thing TypeFault
thing_in (Ok t) = Ok (thing_of t)
thing_in (Err e) = Err e

-- the outcome of a function that gives a right side
abbrev pub right_in : Result LentRight TypeFault → Result Right TypeFault
right_in (Ok r) = Ok (right_of r)
right_in (Err e) = Err e
