use Rattle.std.proofs.Common.{◌≡◌, ◌+◌, ◌*◌, max, [], drop, map}
use Rattle.pm_syn.specs.declared.expression.Arg.{size-Arg}
use Rattle.pm_syn.specs.declared.expression.Expr.{size-Expr}
use Rattle.pm_typing.specs.Expressions.{passed, operands_from}
use Rattle.pm_typing.specs.Sites.{site_of}
use Rattle.pm_type_expr.proofs.typer.Typer.+eval.Given as goal

abbrev pub invariant-operands-loop-argument : goal.invariant-operands-loop-argument
invariant-operands-loop-argument l =
    operands_from l.operands (map passed (drop l.argument-index l.arguments)) (site_of l.self.scope l.at) l.tally
    ≡ operands_from [] (map passed l.arguments) (site_of l.self.scope l.at) l.fn.tally

abbrev pub decreases-thing : goal.decreases-thing
decreases-thing l = 16 * (size-Expr l.e.now) + 0

abbrev pub decreases-operand : goal.decreases-operand
decreases-operand l = 16 * (size-Expr l.e.now) + 1

abbrev pub decreases-unary : goal.decreases-unary
decreases-unary l = 16 * (size-Expr l.operand.now) + 2

abbrev pub decreases-binary : goal.decreases-binary
decreases-binary l = 16 * (max (size-Expr l.left.now) (size-Expr l.right.now)) + 2

abbrev pub decreases-branches : goal.decreases-branches
decreases-branches l = 16 * (max (size-Expr l.this.now) (size-Expr l.other.now)) + 2

abbrev pub decreases-choice_by : goal.decreases-choice_by
decreases-choice_by l = 16 * (max (size-Expr l.this.now) (size-Expr l.other.now)) + 3

abbrev pub decreases-choice : goal.decreases-choice
decreases-choice l = 16 * (max (size-Expr l.condition.now) (max (size-Expr l.this.now) (size-Expr l.other.now))) + 4

abbrev pub decreases-attribute_of : goal.decreases-attribute_of
decreases-attribute_of l = 16 * (size-Expr l.base.now) + 1

abbrev pub decreases-index : goal.decreases-index
decreases-index l = 16 * (max (size-Expr l.base.now) (size-Expr l.index.now)) + 1

abbrev pub decreases-slice_expression : goal.decreases-slice_expression
decreases-slice_expression l = 16 * (max (size-Expr l.base.now) (max (size-Expr l.lo.now) (size-Expr l.hi.now))) + 1

abbrev pub decreases-operands : goal.decreases-operands
decreases-operands l = 16 * (goal.size-operands l) + 3

abbrev pub decreases-values_call : goal.decreases-values_call
decreases-values_call l = 16 * (goal.size-values_call l) + 4

abbrev pub decreases-length_meant : goal.decreases-length_meant
decreases-length_meant l = 16 * (size-Expr l.e.now) + 1

abbrev pub decreases-length_call : goal.decreases-length_call
decreases-length_call l = 16 * (goal.size-length_call l) + 4

abbrev pub decreases-function_call : goal.decreases-function_call
decreases-function_call l = 16 * (goal.size-function_call l) + 5

abbrev pub decreases-integer_call : goal.decreases-integer_call
decreases-integer_call l = 16 * (goal.size-integer_call l) + 4

abbrev pub decreases-width_call : goal.decreases-width_call
decreases-width_call l = 16 * (goal.size-width_call l) + 5

abbrev pub decreases-struct_call : goal.decreases-struct_call
decreases-struct_call l = 16 * (goal.size-struct_call l) + 5

abbrev pub decreases-type_call : goal.decreases-type_call
decreases-type_call l = 16 * (goal.size-type_call l) + 6

abbrev pub decreases-call_of : goal.decreases-call_of
decreases-call_of l = 16 * (goal.size-call_of l) + 7

abbrev pub decreases-call : goal.decreases-call
decreases-call l = 16 * (max (goal.size-call l) (size-Expr l.callee.now)) + 8

abbrev pub decreases-argument : goal.decreases-argument
decreases-argument l = 16 * (size-Arg l.argument.now) + 2
