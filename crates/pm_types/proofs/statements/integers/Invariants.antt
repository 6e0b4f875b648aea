use Rattle.std.proofs.Common.{◌≡◌, [], drop}
use Rattle.pm_types.specs.Statements.{integers_from}
use Rattle.pm_types.proofs.statements.integers.Given as goal

abbrev pub invariant-loop-operand : goal.invariant-loop-operand
invariant-loop-operand l = integers_from l.line l.numbers (drop l.operand-index l.operands) ≡ integers_from l.line [] l.operands
