use Rattle.std.proofs.Common.{◌≡◌, ◌+◌, ◌*◌, max, [], drop, map, length}
use Rattle.pm_syn.specs.declared.expression.Arg.{size-Arg}
use Rattle.pm_syn.specs.declared.expression.Expr.{size-Expr}
use Rattle.pm_elab.specs.Constructs.{make_at}
use Rattle.pm_elab.specs.Expressions.{meaning, passed, items_from, ints_from, given_from, turns_from}
use Rattle.pm_elab.specs.Sites.{site_of}
use Rattle.pm_eval.proofs.builder.Builder.+eval.Given as goal

abbrev pub invariant-items_of-loop-element : goal.invariant-items_of-loop-element
invariant-items_of-loop-element g l =
    items_from l.items (map (meaning (make_at l.self.level)) (drop l.element-index l.elements)) (site_of l.site) l.elaboration
    ≡ items_from [] (map (meaning (make_at l.self.level)) l.elements) (site_of l.site) l.initial.elaboration

abbrev pub invariant-ints-loop-e : goal.invariant-ints-loop-e
invariant-ints-loop-e g l =
    ints_from l.numbers (map (meaning (make_at l.self.level)) (drop l.e-index l.es)) (site_of l.site) l.elaboration
    ≡ ints_from [] (map (meaning (make_at l.self.level)) l.es) (site_of l.site) l.initial.elaboration

abbrev pub invariant-given-loop-argument : goal.invariant-given-loop-argument
invariant-given-loop-argument g l =
    given_from l.given (map (passed (make_at l.self.level)) (drop l.argument-index l.arguments)) (site_of l.site) l.elaboration
    ≡ given_from [] (map (passed (make_at l.self.level)) l.arguments) (site_of l.site) l.initial.elaboration

abbrev pub invariant-turns_of-loop-at : goal.invariant-turns_of-loop-at
invariant-turns_of-loop-at g l =
    turns_from l.items (meaning (make_at l.self.level) l.element) l.name l.range (site_of l.site) l.elaboration
    ≡ turns_from [] (meaning (make_at l.self.level) l.element) l.name l.initial.range (site_of l.site) l.initial.elaboration

abbrev pub decreases-turns_of-loop-at : goal.decreases-turns_of-loop-at
decreases-turns_of-loop-at g l = length l.range

abbrev pub decreases-eval : goal.decreases-eval
decreases-eval g l = 8 * (size-Expr l.e.now)

abbrev pub decreases-int_of : goal.decreases-int_of
decreases-int_of g l = 8 * (size-Expr l.e.now) + 1

abbrev pub decreases-unary : goal.decreases-unary
decreases-unary g l = 8 * (size-Expr l.operand.now) + 2

abbrev pub decreases-operation : goal.decreases-operation
decreases-operation g l = 8 * (max (size-Expr l.left.now) (size-Expr l.right.now)) + 4

abbrev pub decreases-operation_on : goal.decreases-operation_on
decreases-operation_on g l = 8 * (size-Expr l.right.now) + 3

abbrev pub decreases-int_operation : goal.decreases-int_operation
decreases-int_operation g l = 8 * (size-Expr l.right.now) + 2

abbrev pub decreases-comparison : goal.decreases-comparison
decreases-comparison g l = 8 * (size-Expr l.right.now) + 2

abbrev pub decreases-choice : goal.decreases-choice
decreases-choice g l = 8 * (max (size-Expr l.this.now) (max (size-Expr l.condition.now) (size-Expr l.other.now))) + 2

abbrev pub decreases-attribute_of : goal.decreases-attribute_of
decreases-attribute_of g l = 8 * size-Expr l.base.now + 3

abbrev pub decreases-index : goal.decreases-index
decreases-index g l = 8 * max (size-Expr l.base.now) (size-Expr l.index.now) + 5

abbrev pub decreases-element_of : goal.decreases-element_of
decreases-element_of g l = 8 * (size-Expr l.index.now) + 2

abbrev pub decreases-slice_expression : goal.decreases-slice_expression
decreases-slice_expression g l = 8 * (max (size-Expr l.base.now) (max (size-Expr l.lo.now) (size-Expr l.hi.now))) + 4

abbrev pub decreases-slice_of : goal.decreases-slice_of
decreases-slice_of g l = 8 * (max (size-Expr l.lo.now) (size-Expr l.hi.now)) + 3

abbrev pub decreases-bounds : goal.decreases-bounds
decreases-bounds g l = 8 * (max (size-Expr l.lo.now) (size-Expr l.hi.now)) + 2

abbrev pub decreases-items_of : goal.decreases-items_of
decreases-items_of g l = 8 * (goal.size-items_of g l) + 2

abbrev pub decreases-items : goal.decreases-items
decreases-items g l = 8 * (goal.size-items g l) + 3

abbrev pub decreases-ints : goal.decreases-ints
decreases-ints g l = 8 * (goal.size-ints g l) + 2

abbrev pub decreases-range : goal.decreases-range
decreases-range g l = 8 * (goal.size-range g l) + 3

abbrev pub decreases-turn : goal.decreases-turn
decreases-turn g l = 8 * (size-Expr l.element.now) + 1

abbrev pub decreases-turns_of : goal.decreases-turns_of
decreases-turns_of g l = 8 * (size-Expr l.element.now) + 2

abbrev pub decreases-turns : goal.decreases-turns
decreases-turns g l = 8 * (size-Expr l.element.now) + 3

abbrev pub decreases-comprehension : goal.decreases-comprehension
decreases-comprehension g l = 8 * (max (goal.size-comprehension g l) (size-Expr l.element.now)) + 4

abbrev pub decreases-callee : goal.decreases-callee
decreases-callee g l = 8 * (size-Expr l.e.now) + 1

abbrev pub decreases-one_given : goal.decreases-one_given
decreases-one_given g l = 8 * (size-Arg l.argument.now) + 1

abbrev pub decreases-given : goal.decreases-given
decreases-given g l = 8 * (goal.size-given g l) + 2

abbrev pub decreases-function_call : goal.decreases-function_call
decreases-function_call g l = 8 * (goal.size-function_call g l) + 3

abbrev pub decreases-block_call : goal.decreases-block_call
decreases-block_call g l = 8 * (goal.size-block_call g l) + 4

abbrev pub decreases-constant_call : goal.decreases-constant_call
decreases-constant_call g l = 8 * (goal.size-constant_call g l) + 3

abbrev pub decreases-type_call : goal.decreases-type_call
decreases-type_call g l = 8 * (goal.size-type_call g l) + 4

abbrev pub decreases-class_call : goal.decreases-class_call
decreases-class_call g l = 8 * (goal.size-class_call g l) + 3

abbrev pub decreases-value_call : goal.decreases-value_call
decreases-value_call g l = 8 * (goal.size-value_call g l) + 5

abbrev pub decreases-call_of : goal.decreases-call_of
decreases-call_of g l = 8 * (goal.size-call_of g l) + 6

abbrev pub decreases-call : goal.decreases-call
decreases-call g l = 8 * (max (goal.size-call g l) (size-Expr l.callee.now)) + 7

abbrev pub decreases-find : goal.decreases-find
decreases-find g l = 8 * size-Expr l.e.now + 1

abbrev pub decreases-find_attribute : goal.decreases-find_attribute
decreases-find_attribute g l = 8 * size-Expr l.base.now + 2

abbrev pub decreases-find_element : goal.decreases-find_element
decreases-find_element g l = 8 * max (size-Expr l.base.now) (size-Expr l.index.now) + 4

abbrev pub decreases-lone_length : goal.decreases-lone_length
decreases-lone_length g l = 8 * size-Expr l.e.now + 2

abbrev pub decreases-length_call : goal.decreases-length_call
decreases-length_call g l = 8 * goal.size-length_call g l + 4
