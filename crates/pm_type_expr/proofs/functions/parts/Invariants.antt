use Rattle.std.proofs.Common.{◌≡◌, length}
use Rattle.pm_typing.specs.Functions.{parts_from, no_parts}
use Rattle.pm_type_expr.specs.Held.{joined_of}
use Rattle.pm_type_expr.proofs.functions.parts.Given as goal

abbrev pub invariant-loop-operand : goal.invariant-loop-operand
invariant-loop-operand l = parts_from l.line (joined_of l.joined) l.queue ≡ parts_from l.line no_parts l.fn.operands

abbrev pub decreases-loop-operand : goal.decreases-loop-operand
decreases-loop-operand l = length l.queue
