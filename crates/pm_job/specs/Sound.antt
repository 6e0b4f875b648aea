-- What is true of every component of the narrow form: widths agree, and every index is that of a signal.
use Rattle.std.specs.Prelude.{ℕ, Bool, true, false, ◌==◌, ◌&&◌, nat_le, List, map, slice_get}
use Rattle.std.specs.Option.{option_map_or}
use Rattle.std.specs.List.{list_all}
use Rattle.pm_bits.specs.declared.operator.Op.{Op}
use Rattle.pm_bits.specs.declared.operator.Op.TheVariants as op
use Rattle.pm_design.specs.declared.signal.Signal.{Signal}
use Rattle.pm_job.specs.declared.component.Component.{Component}
use Rattle.pm_job.specs.declared.component.Assignment.{Assignment}
use Rattle.pm_job.specs.declared.component.Expression.{Expression}
use Rattle.pm_job.specs.declared.component.Expression.TheVariants as expression
use Rattle.pm_job.specs.declared.component.Operand.{Operand}
use Rattle.pm_job.specs.declared.component.Operand.TheVariants as operand

-- the widths of the signals
abbrev pub widths_of : List Signal → List ℕ
widths_of = map (λ signal. signal.width)

-- a width is 1 to 128
abbrev pub is_width : ℕ → Bool
is_width width = nat_le 1 width && nat_le width 128

-- there is a signal at the index, and it has this width
abbrev pub has_width : List ℕ → ℕ → ℕ → Bool
has_width widths width index = option_map_or (λ known. known == width) (slice_get widths index) false

-- an operand has this width
abbrev pub operand_fits : List ℕ → ℕ → Operand → Bool
operand_fits widths width (operand.Signal index) = has_width widths width index
operand_fits widths width (operand.Constant bits) = bits.width == width

-- an operator's result has the width of its operands
abbrev pub keeps_width : Op → Bool
keeps_width op.Add = true
keeps_width op.Sub = true
keeps_width op.Mul = true
keeps_width op.And = true
keeps_width op.Or = true
keeps_width op.Xor = true
keeps_width op.Shl = true
keeps_width op.Shr = true
keeps_width op.Eq = false
keeps_width op.Ne = false
keeps_width op.Lt = false
keeps_width op.Le = false
keeps_width op.Gt = false
keeps_width op.Ge = false

-- each operand of an expression has this width, and so has its value
abbrev pub expression_fits : List ℕ → ℕ → Expression → Bool
expression_fits widths width (expression.Just a) = operand_fits widths width a
expression_fits widths width (expression.Both operator a b) =
    keeps_width operator && (operand_fits widths width a && operand_fits widths width b)

-- an assignment has a target, and its expression has the target's width
abbrev pub assignment_fits : List ℕ → Assignment → Bool
assignment_fits widths block = option_map_or (λ width. expression_fits widths width block.value) (slice_get widths block.target) false

-- each signal has a width, and each assignment fits the signals
abbrev pub is_typed : Component → Bool
is_typed component =
    list_all is_width (widths_of component.signals) && list_all (assignment_fits (widths_of component.signals)) component.blocks
