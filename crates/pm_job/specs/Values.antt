-- What the operands of an expression need of the values.
use Rattle.std.specs.Prelude.{◌≡◌, ◌<◌, ℕ, List, map, length}
use Rattle.pm_bits.specs.Word.{Word}
use Rattle.pm_job.specs.declared.component.Expression.{Expression}
use Rattle.pm_job.specs.declared.component.Expression.TheVariants as expression
use Rattle.pm_job.specs.declared.component.Operand.{Operand}
use Rattle.pm_job.specs.declared.component.Operand.TheVariants as operand
use Rattle.pm_job.specs.Settled.{operand_value, value_at}

-- the widths of the values
abbrev pub value_widths : List Word → List ℕ
value_widths = map (λ value. value.width)

-- the index of a signal is below the count
abbrev pub IsWithin : ℕ → Operand → Type 0
IsWithin count (operand.Signal index) = index < count
IsWithin count (operand.Constant bits) = Unit {0}

-- the operands of an expression have values, and both the same width
abbrev pub IsComputable : List Word → Expression → Type 0
IsComputable values (expression.Just a) = IsWithin (length values) a
IsComputable values (expression.Both op a b) = IsWithin (length values) a × IsWithin (length values) b
    × ((operand_value (value_at values) a).width ≡ (operand_value (value_at values) b).width)
