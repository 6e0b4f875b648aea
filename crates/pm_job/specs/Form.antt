-- The narrow form of a design: which component a text spells.
use Rattle.std.specs.Prelude.{ℕ, ◌+◌, ◌^◌, Bool, true, false, not, ◌&&◌, ◌==◌, nat_le, if◌then◌else◌, List, [], ◌∷◌, length, map, filter, codes, slice_get, Option, Some, None, is_some, option_map}
use Rattle.std.specs.Option.{option_map_or}
use Rattle.std.specs.List.{list_all, list_any}
use Rattle.std.specs.Str.{bytes_eq}
use Rattle.pm_bits.specs.declared.operator.Op.{Op}
use Rattle.pm_io.specs.Lines.{lines_of}
use Rattle.pm_design.specs.declared.signal.Role.TheVariants as role
use Rattle.pm_design.specs.declared.signal.Signal.{Signal}
use Rattle.pm_job.specs.declared.component.Component.{Component}
use Rattle.pm_job.specs.declared.component.Assignment.{Assignment}
use Rattle.pm_job.specs.declared.component.Expression.{Expression}
use Rattle.pm_job.specs.declared.component.Expression.TheVariants as expression
use Rattle.pm_job.specs.declared.component.Operand.{Operand}
use Rattle.pm_job.specs.declared.component.Operand.TheVariants as operand
use Rattle.pm_job.specs.Words.{without_prefix, without_ending}
use Rattle.pm_job.specs.Spelling.{◌and_then◌, cut, is_name, is_new_name, numeral_below, value_where_it_fits, role_of, operator_of}
use Rattle.pm_job.specs.Sound.{is_typed}
use Rattle.pm_job.specs.Trace.{is_input}
use Rattle.pm_job.specs.declared.form_parts.Declaration.{Declaration}

-- ---- lines

-- the lines of a text that are not empty
unfoldable pub form_lines : List ℕ → List (List ℕ)
form_lines text = filter (λ line. not (length line == 0)) (map (λ line. line.bytes) (lines_of text))

-- the lines after the first one, if that is the wanted line
abbrev pub after_line : List ℕ → List (List ℕ) → Option (List (List ℕ))
after_line wanted [] = None
after_line wanted (line ∷ lines) = if bytes_eq line wanted then Some lines else None

-- `class`, then the class, then `( Component ):`
abbrev pub is_head_of : List ℕ → List ℕ → Bool
is_head_of class line = option_map_or (λ text. bytes_eq text (codes "( Component ):")) (without_prefix (codes "class ") line and_then without_prefix class) false

-- `class NAME( Component ):`, where NAME is the class
unfoldable pub is_class_line : List ℕ → List ℕ → Bool
is_class_line class line = is_name class && is_head_of class line

-- the lines after the first one, if that is the line of the class
abbrev pub after_class_line : List ℕ → List (List ℕ) → Option (List (List ℕ))
after_class_line class [] = None
after_class_line class (line ∷ lines) = if is_class_line class line then Some lines else None

-- the lines after the first three, if those open a component of this class
unfoldable pub after_head : List ℕ → List (List ℕ) → Option (List (List ℕ))
after_head class lines =
    after_line (codes "from pymtl3 import *") lines and_then λ rest.
    after_class_line class rest and_then after_line (codes "  def construct( s ):")

-- ---- signals

-- the signal of a name, a kind of port and a width
abbrev pub signal_of : List ℕ → List ℕ → List ℕ → Option Signal
signal_of name port width =
    if not (is_new_name name) then None else
    role_of port and_then λ role.
    option_map (λ width. record { name = name; role = role; width = width; shape = None }) (numeral_below (2 ^ 32) width)

-- the signal that a declaration of the code means
abbrev pub signal_in : Declaration → Signal
signal_in d = record { name = d.name.now; role = d.role; width = d.width; shape = None }

-- the signal that `s.NAME = InPort( W )` declares, or one with `OutPort` or `Wire`
unfoldable pub declaration_of : List ℕ → Option Signal
declaration_of line =
    without_prefix (codes "    s.") line and_then λ text.
    cut text and_then λ name.
    without_prefix (codes "= ") name.1 and_then λ rest.
    cut rest and_then λ port.
    cut port.1 and_then λ width.
    if bytes_eq width.1 (codes ")") then signal_of name.0 port.0 width.0 else None

-- the signals that the lines declare, up to the first line that declares none
unfoldable pub declared : List (List ℕ) → List Signal
declared [] = []
declared (line ∷ lines) = option_map_or (λ signal. signal ∷ declared lines) (declaration_of line) []

-- the lines from the first line that declares no signal
unfoldable pub after_declared : List (List ℕ) → List (List ℕ)
after_declared [] = []
after_declared (line ∷ lines) = if is_some (declaration_of line) then after_declared lines else line ∷ lines

-- the input that each component has
abbrev pub reset : Signal
reset = record { name = codes "reset"; role = role.Input; width = 1; shape = None }

-- ---- blocks

-- the index of the first signal of this name, where the first signal has this index
abbrev pub index_from : ℕ → List Signal → List ℕ → Option ℕ
index_from index [] name = None
index_from index (signal ∷ signals) name = if bytes_eq signal.name name then Some index else index_from (index + 1) signals name

-- the index of the signal of this name
unfoldable pub index_of : List Signal → List ℕ → Option ℕ
index_of signals name = index_from 0 signals name

-- what a term reads: a signal `s.NAME`, or a number below 2 to the 63 as a value of this width
unfoldable pub operand_of : List Signal → ℕ → List ℕ → Option Operand
operand_of signals width term =
    option_map_or (λ name. option_map operand.Signal (index_of signals name))
    (without_prefix (codes "s.") term)
    (numeral_below (2 ^ 63) term and_then λ number. option_map operand.Constant (value_where_it_fits width number))

-- the operand is a constant
abbrev pub is_constant : Operand → Bool
is_constant (operand.Signal index) = false
is_constant (operand.Constant bits) = true

-- an operator on two operands, at least one of which is a signal
unfoldable pub both_of : Op → Operand → Operand → Option Expression
both_of op a b = if is_constant a && is_constant b then None else Some (expression.Both op a b)

-- two terms with a sign between them
unfoldable pub double_of : List Signal → ℕ → List ℕ → List ℕ → List ℕ → Option Expression
double_of signals width a sign b =
    operator_of sign and_then λ op.
    operand_of signals width a and_then λ first.
    operand_of signals width b and_then λ second.
    both_of op first second

-- the expression of this width that a text writes: a term, or two terms with ` + `, ` & `, ` | ` or ` ^ ` between them
unfoldable pub expression_of : List Signal → ℕ → List ℕ → Option Expression
expression_of signals width text =
    option_map_or (λ first. cut first.1 and_then λ sign. double_of signals width first.0 sign.0 sign.1)
    (cut text)
    (option_map expression.Just (operand_of signals width text))

-- the width of the signal at an index
abbrev pub width_at : List Signal → ℕ → Option ℕ
width_at signals index = option_map (λ signal. signal.width) (slice_get signals index)

-- the target and the value of `s.NAME @= E`
unfoldable pub assignment_of : List Signal → List ℕ → Option (ℕ × Expression)
assignment_of signals line =
    without_prefix (codes "      s.") line and_then λ text.
    cut text and_then λ name.
    without_prefix (codes "@= ") name.1 and_then λ value.
    index_of signals name.0 and_then λ target.
    width_at signals target and_then λ width.
    option_map (λ value. (target, value)) (expression_of signals width value)

-- the name of `def NAME():`
unfoldable pub block_name : List ℕ → Option (List ℕ)
block_name line =
    without_prefix (codes "    def ") line and_then λ text.
    without_ending (codes "():") text and_then λ name.
    if is_new_name name then Some name else None

-- the block that three lines spell: `@update`, the line of its name, and its assignment
unfoldable pub block_of : List Signal → List ℕ → List ℕ → List ℕ → Option Assignment
block_of signals decorator head assignment =
    if not (bytes_eq decorator (codes "    @update")) then None else
    block_name head and_then λ name.
    option_map (λ assigned. record { name = name; target = assigned.0; value = assigned.1 }) (assignment_of signals assignment)

-- the blocks that the lines spell, three lines for each
unfoldable pub blocks_of : List Signal → List (List ℕ) → Option (List Assignment)
blocks_of signals [] = Some []
blocks_of signals (decorator ∷ []) = None
blocks_of signals (decorator ∷ head ∷ []) = None
blocks_of signals (decorator ∷ head ∷ assignment ∷ lines) =
    block_of signals decorator head assignment and_then λ block.
    option_map (λ blocks. block ∷ blocks) (blocks_of signals lines)

-- ---- the whole

-- the component that the lines after the first three spell
unfoldable pub component_in : List (List ℕ) → Option Component
component_in lines =
    if not (nat_le (length (reset ∷ declared lines)) 65) then None else
    option_map (λ blocks. record { signals = reset ∷ declared lines; blocks = blocks }) (blocks_of (reset ∷ declared lines) (after_declared lines))

-- no two signals have the same name
abbrev pub signals_differ : List Signal → Bool
signals_differ [] = true
signals_differ (signal ∷ signals) = not (list_any (λ other. bytes_eq other.name signal.name) signals) && signals_differ signals

-- no block has the name of a signal or of another block
abbrev pub names_differ : List Signal → List Assignment → Bool
names_differ signals [] = true
names_differ signals (block ∷ blocks) =
    (not (list_any (λ signal. bytes_eq signal.name block.name) signals) && not (list_any (λ other. bytes_eq other.name block.name) blocks))
    && names_differ signals blocks

-- no two blocks have the same target
abbrev pub targets_differ : List Assignment → Bool
targets_differ [] = true
targets_differ (block ∷ blocks) = not (list_any (λ other. other.target == block.target) blocks) && targets_differ blocks

-- there is a signal at the index, and it isn't an input
abbrev pub is_driven : List Signal → ℕ → Bool
is_driven signals index = option_map_or (λ signal. not (is_input signal.role)) (slice_get signals index) false

-- the target of a block is a signal, and not an input
abbrev pub has_target : List Signal → Assignment → Bool
has_target signals block = is_driven signals block.target

-- there are 1 to 64 signals besides `reset`, and at most 64 blocks
abbrev pub is_counted : Component → Bool
is_counted component =
    (nat_le 2 (length component.signals) && nat_le (length component.signals) 65) && nat_le (length component.blocks) 64

-- what lines alone don't show of a component: counts, names, targets and widths
unfoldable pub is_sound : Component → Bool
is_sound component =
    is_counted component
    && (signals_differ component.signals
    && (names_differ component.signals component.blocks
    && (targets_differ component.blocks
    && (list_all (has_target component.signals) component.blocks
    && is_typed component))))

-- the component of this class that a text of the narrow form spells, in at most 2 to the 20 bytes
unfoldable pub component_of : List ℕ → List ℕ → Option Component
component_of class text =
    if not (nat_le (length text) (2 ^ 20)) then None else
    after_head class (form_lines text) and_then λ lines.
    component_in lines and_then λ component.
    if is_sound component then Some component else None
