-- How a component of the narrow form is written, line by line.
use Rattle.std.specs.Prelude.{◌≡◌, ◌<◌, ◌^◌, ℕ, IsTrue, List, [], ◌∷◌, ◌++◌, All, map, codes, decimal, slice_get, Some, None}
use Rattle.pm_bits.specs.declared.operator.Op.{Op}
use Rattle.pm_bits.specs.declared.operator.Op.TheVariants as op
use Rattle.pm_design.specs.declared.signal.Role.{Role}
use Rattle.pm_design.specs.declared.signal.Role.TheVariants as role
use Rattle.pm_design.specs.declared.signal.Signal.{Signal}
use Rattle.pm_job.specs.declared.component.Component.{Component}
use Rattle.pm_job.specs.declared.component.Assignment.{Assignment}
use Rattle.pm_job.specs.declared.component.Expression.{Expression}
use Rattle.pm_job.specs.declared.component.Expression.TheVariants as expression
use Rattle.pm_job.specs.declared.component.Operand.{Operand}
use Rattle.pm_job.specs.declared.component.Operand.TheVariants as operand
use Rattle.pm_job.specs.Form.{reset}
use Rattle.pm_job.specs.Spelling.{is_name, is_new_name}

-- the word that declares a signal of this role
abbrev pub port_of : Role → List ℕ
port_of role.Input = codes "InPort"
port_of role.Output = codes "OutPort"
port_of role.Inner = codes "Wire"

-- `s.NAME = InPort( W )`, or with `OutPort` or `Wire`
abbrev pub declaration_line : Signal → List ℕ
declaration_line signal = codes "    s." ++ signal.name ++ codes " = " ++ port_of signal.role ++ codes "( " ++ decimal signal.width ++ codes " )"

-- the sign of an operator
pub data IsSign : Op → List ℕ → Type 0 where
  sum : IsSign op.Add (codes "+")
  conjunction : IsSign op.And (codes "&")
  disjunction : IsSign op.Or (codes "|")
  exclusive : IsSign op.Xor (codes "^")

-- the text of an operand: `s.NAME`, or a number in decimal digits for a constant of this width
pub data IsTerm (signals : List Signal) (width : ℕ) : Operand → List ℕ → Type 0 where
  signal : (index : ℕ) (read : Signal) → slice_get signals index ≡ Some read → IsTerm signals width (operand.Signal index) (codes "s." ++ read.name)
  number : (value : ℕ) → value < 2 ^ 63 → value < 2 ^ width
      → IsTerm signals width (operand.Constant (record { width = width; value = value })) (decimal value)

-- an operand that reads a signal
pub data ReadsSignal : Operand → Type 0 where
  signal : (index : ℕ) → ReadsSignal (operand.Signal index)

-- the text of an expression: a term, or two terms with a sign between them, at least one of which reads a signal
pub data IsValue (signals : List Signal) (width : ℕ) : Expression → List ℕ → Type 0 where
  term : (a : Operand) (text : List ℕ) → IsTerm signals width a text → IsValue signals width (expression.Just a) text
  first_signal : (o : Op) (a b : Operand) (left sign right : List ℕ) → IsTerm signals width a left → IsSign o sign → IsTerm signals width b right
      → ReadsSignal a → IsValue signals width (expression.Both o a b) (left ++ codes " " ++ sign ++ codes " " ++ right)
  second_signal : (o : Op) (a b : Operand) (left sign right : List ℕ) → IsTerm signals width a left → IsSign o sign → IsTerm signals width b right
      → ReadsSignal b → IsValue signals width (expression.Both o a b) (left ++ codes " " ++ sign ++ codes " " ++ right)

-- the lines of a block: `@update`, `def NAME():` and `s.TARGET @= VALUE`
pub record AreBlockLines (signals : List Signal) (block : Assignment) (lines : List (List ℕ)) : Type 0 where
  pub name : IsTrue (is_new_name block.name)
  pub target : Signal
  pub index : slice_get signals block.target ≡ Some target
  pub value : List ℕ
  pub written : IsValue signals target.width block.value value
  pub whole : lines
      ≡ codes "    @update" ∷ (codes "    def " ++ block.name ++ codes "():") ∷ (codes "      s." ++ target.name ++ codes " @= " ++ value) ∷ []

-- the lines of blocks, one block after the other
pub data AreBlocksLines (signals : List Signal) : List Assignment → List (List ℕ) → Type 0 where
  nothing : AreBlocksLines signals [] []
  more : (block : Assignment) (blocks : List Assignment) (lines others : List (List ℕ)) → AreBlockLines signals block lines
      → AreBlocksLines signals blocks others → AreBlocksLines signals (block ∷ blocks) (lines ++ others)

-- a signal that a line can declare
pub record IsDeclared (signal : Signal) : Type 0 where
  pub name : IsTrue (is_new_name signal.name)
  pub plain : signal.shape ≡ None

-- the lines of a component of this class: three lines that open it, its signals other than `reset`, and its blocks
pub record AreComponentLines (class : List ℕ) (component : Component) (lines : List (List ℕ)) : Type 0 where
  pub name : IsTrue (is_name class)
  pub declared : List Signal
  pub signals : component.signals ≡ reset ∷ declared
  pub each : All IsDeclared declared
  pub blocks : List (List ℕ)
  pub written : AreBlocksLines component.signals component.blocks blocks
  pub whole : lines
      ≡ codes "from pymtl3 import *" ∷ (codes "class " ++ class ++ codes "( Component ):") ∷ codes "  def construct( s ):"
      ∷ (map declaration_line declared ++ blocks)
