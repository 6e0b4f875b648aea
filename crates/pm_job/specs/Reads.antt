-- What an expression reads, and blocks that each read only targets of earlier blocks and their own.
use Rattle.std.specs.Prelude.{ℕ, ◌<◌, ◌==◌, Bool, true, false, not, ◌&&◌, ◌||◌, List, [], ◌∷◌, All}
use Rattle.std.specs.List.{list_all}
use Rattle.pm_job.specs.declared.component.Assignment.{Assignment}
use Rattle.pm_job.specs.declared.component.Expression.{Expression}
use Rattle.pm_job.specs.declared.component.Expression.TheVariants as expression
use Rattle.pm_job.specs.declared.component.Operand.{Operand}
use Rattle.pm_job.specs.declared.component.Operand.TheVariants as operand

-- an operand is the signal at an index
abbrev pub operand_is : ℕ → Operand → Bool
operand_is index (operand.Signal other) = other == index
operand_is index (operand.Constant bits) = false

-- an expression reads the signal at an index
abbrev pub reads : ℕ → Expression → Bool
reads index (expression.Just a) = operand_is index a
reads index (expression.Both op a b) = operand_is index a || operand_is index b

-- no block reads what a later one assigns
abbrev pub is_ordered : List Assignment → Bool
is_ordered [] = true
is_ordered (block ∷ blocks) = list_all (λ later. not (reads later.target block.value)) blocks && is_ordered blocks

-- the target of each block is below the count
abbrev pub AssignWithin : ℕ → List Assignment → Type 0
AssignWithin count = All (λ block. block.target < count)
