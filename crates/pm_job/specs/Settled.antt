-- The settled values of a cycle, as one equation for each signal.
use Rattle.std.specs.Prelude.{◌≡◌, ◌≢◌, ◌==◌, ℕ, List, All, length, slice_index_or, if◌then◌else◌}
use Rattle.pm_bits.specs.Word.{Word}
use Rattle.pm_bits.specs.Operator.{result_of}
use Rattle.pm_job.specs.declared.component.Assignment.{Assignment}
use Rattle.pm_job.specs.declared.component.Expression.{Expression}
use Rattle.pm_job.specs.declared.component.Expression.TheVariants as expression
use Rattle.pm_job.specs.declared.component.Operand.{Operand}
use Rattle.pm_job.specs.declared.component.Operand.TheVariants as operand

-- the value of the signal at an index
abbrev pub value_at : List Word → ℕ → Word
value_at values index = slice_index_or values index (record { width = 1; value = 0 })

-- the value of an operand, where `at` gives the value of each signal
abbrev pub operand_value : (ℕ → Word) → Operand → Word
operand_value at (operand.Signal index) = at index
operand_value at (operand.Constant bits) = bits

-- the value of an expression, where `at` gives the value of each signal
abbrev pub expression_value : (ℕ → Word) → Expression → Word
expression_value at (expression.Just a) = operand_value at a
expression_value at (expression.Both op a b) = result_of op (operand_value at a) (operand_value at b)

-- what a block sees: its own target as it was at the start of the cycle, and every other signal settled
abbrev pub seen_by : Assignment → List Word → List Word → ℕ → Word
seen_by block start settled index = if index == block.target then value_at start index else value_at settled index

-- The values solve the equations of a cycle: a signal that no block assigns has its value at the start of the cycle,
-- and a signal that a block assigns has the value of that block's expression over what the block sees.
pub record IsSettled (blocks : List Assignment) (start settled : List Word) : Type 0 where
  pub one_each : length settled ≡ length start
  pub unassigned : (index : ℕ) → All (λ block. block.target ≢ index) blocks → value_at settled index ≡ value_at start index
  pub assigned : All (λ block. value_at settled block.target ≡ expression_value (seen_by block start settled) block.value) blocks
