use Rattle.std.proofs.Common.{◌≡◌, ◌≤◌, ◌+◌, ◌∙◌, List, Some, None, codes, length, refl, sym, ap, subst, inr, arith, ◌∷◌, ◌++◌, [], length-append}
use Rattle.pm_syn.specs.declared.expression.Expr.{Expr}
use Rattle.pm_syn.specs.declared.token.Token.{Token}
use Rattle.pm_grammar.specs.Expressions.{Spells, SpellsArgument, SpellsArguments, SpellsRange, SpellsSequence}
use Rattle.pm_grammar.specs.Prefixes.{IsNotFirst}
use Rattle.pm_grammar.specs.Levels.{rank}
use Rattle.pm_grammar.specs.Tokens.{is_word, is_symbol}
use Rattle.pm_grammar.specs.Operations.{ContinuesFrom}
use Rattle.pm_grammar.specs.Reading.{Begins, IsOnly, IsOnlyBefore, IsOnlyBeginning}
use Rattle.pm_grammar.specs.declared.level.Level.{Level}
use Rattle.pm_grammar.specs.declared.level.Level.TheVariants as level
use Rattle.pm_grammar.proofs.Chains.{goes_parts, goes_within}
use Rattle.pm_grammar.proofs.Conditionals.{begins_conditional, begins_value, no_condition, no_else, no_other, no_value, only_conditional, only_value}
use Rattle.pm_grammar.proofs.OperationsRead.{begins_looser, begins_next, begins_not, goes_first, goes_next, goes_not, no_first, no_next, no_not, only_done}
use Rattle.pm_grammar.proofs.ReadCases.{operand_within}
use Rattle.pm_grammar.proofs.+parse.Goals as goal
use Rattle.pm_grammar.proofs.+parse.Goals.{operation::operand-then-rank+in_default, operation::operand-else-rank}
use Rattle.std.specs.Prelude.{Some, None}
use Rattle.std.proofs.lemmas.List.{nil_from_length}
use Rattle.pm_syn.specs.declared.expression.Arg.{Arg}
use Rattle.pm_syn.specs.declared.expression.Expr.TheViews as expr
use Rattle.pm_grammar.specs.Brackets.{IsOnlyItems, SpellsAttribute, SpellsBounds, SpellsEach, SpellsGroup, SpellsLeaf, SpellsList, SpellsSubscript}
use Rattle.pm_grammar.specs.Suffixes.{SpellsSuffix}
use Rattle.pm_grammar.proofs.Atoms.{atom_of_group, atom_of_list, begins_group, begins_leaf, begins_list, group_found, no_atom_there, no_group, no_tokens, only_group, only_leaf, open_group}
use Rattle.pm_grammar.proofs.CallArguments.{GoesOnArguments, IsOnlyArgument, SpellsLeading, argument_found, arguments_found, goes_argument, goes_arguments, last_found, leading_found, no_argument, no_value_opened, nothing_found, only_argument, only_arguments, only_last, opened_no_longer}
use Rattle.pm_grammar.proofs.Lists.{GoesOnItems, IsSequenceBehind, begins_each, begins_more, each_found, empty_found, goes_item, goes_items, items_comma_found, items_found, list_found, no_each, no_item, no_more_items, no_list, only_each, only_empty, only_for, only_items, only_items_comma, only_list, open_each, open_list, sequence_more, sequence_start}
use Rattle.pm_grammar.proofs.Parts.{behind_shorter}
use Rattle.pm_grammar.proofs.Powers.{begins_power, begins_signed, begins_unsigned, no_base, no_exponent, no_operand_there, no_signed, only_base, only_power, only_signed, only_unsigned, power_found}
use Rattle.pm_grammar.proofs.Ranges.{GoesOnBounds, bounds_found, bounds_start, goes_bound, goes_bounds, no_bound, no_bounds, no_range, only_bounds, only_range, open_range, no_range_there, range_found, too_many}
use Rattle.pm_grammar.proofs.ReadAnswers.{boxed_found, boxed_only, boxed_shorter, failed, found_ok, none_read, not_given, only_ok}
use Rattle.pm_grammar.proofs.SuffixChains.{begins_longer, begins_postfix, goes_atom, goes_suffix, no_atom, no_suffix, only_postfix}
use Rattle.pm_grammar.proofs.SuffixKinds.{begins_attribute, begins_call, begins_place, index_found, no_call, no_place, no_place_behind, no_slice, only_call, only_index, only_slice, only_suffix_attribute, only_suffix_call, only_suffix_place, open_call, open_slice, slice_found}

pub operation::expression-returns-in_err-value-clause-only : goal.operation::expression-returns-in_err-value-clause-only
operation::expression-returns-in_err-value-clause-only t c =
    failed (IsOnly level.Disjunction c.args.tokens.now) (IsOnly level.Conditional c.args.tokens.now) c.from_residual.result c.in_err-value.field-0.0
    (λ nothing. no_value c.args.tokens.now nothing)
    c.from_residual.ensures c.in_err-value.ensures.only

pub operation::expression-returns-in_err-value-clause-found : goal.operation::expression-returns-in_err-value-clause-found
operation::expression-returns-in_err-value-clause-found t c = none_read c.from_residual.result _ c.from_residual.ensures.0

pub operation::expression-returns-in_err-value-clause-shorter : goal.operation::expression-returns-in_err-value-clause-shorter
operation::expression-returns-in_err-value-clause-shorter t c = none_read c.from_residual.result _ c.from_residual.ensures.0

pub operation::expression-returns-in_default-clause-found :
    goal.operation::expression-returns-in_default-clause-found
operation::expression-returns-in_default-clause-found t c =
    begins_value c.args.tokens.now c.in_ok-value.rest.now c.in_ok-value.value
    c.in_ok-value.ensures.found

pub operation::expression-returns-in_default-clause-only :
    goal.operation::expression-returns-in_default-clause-only
operation::expression-returns-in_default-clause-only t c =
    only_value c.args.tokens.now c.in_ok-value.rest.now c.in_ok-value.value
    c.in_ok-value.ensures.only
    c.in_default.ensures

pub operation::expression-returns-in_err-condition-clause-only : goal.operation::expression-returns-in_err-condition-clause-only
operation::expression-returns-in_err-condition-clause-only t c =
    let value = c.in_ok-value.ensures.only in
    failed (IsOnly level.Disjunction c.in-Some.tail.now) (IsOnly level.Conditional c.args.tokens.now) c.from_residual-in_err-condition.result c.in_err-condition.field-0.0
    (λ nothing. no_condition c.args.tokens.now c.in-Some.tail.now c.in_ok-value.value (c.in_ok-value.rest.now, value, c.in-Some.ensures)
    nothing)
    c.from_residual-in_err-condition.ensures c.in_err-condition.ensures.only

pub operation::expression-returns-in_err-condition-clause-found : goal.operation::expression-returns-in_err-condition-clause-found
operation::expression-returns-in_err-condition-clause-found t c = none_read c.from_residual-in_err-condition.result _ c.from_residual-in_err-condition.ensures.0

pub operation::expression-returns-in_err-condition-clause-shorter : goal.operation::expression-returns-in_err-condition-clause-shorter
operation::expression-returns-in_err-condition-clause-shorter t c = none_read c.from_residual-in_err-condition.result _ c.from_residual-in_err-condition.ensures.0

pub operation::expression-returns-in_default-after_word-clause-only :
    goal.operation::expression-returns-in_default-after_word-clause-only
operation::expression-returns-in_default-after_word-clause-only t c =
    let value = c.in_ok-value.ensures.only in
    no_else c.args.tokens.now c.in-Some.tail.now c.in_ok-condition.rest.now c.in_ok-value.value c.in_ok-condition.condition (c.in_ok-value.rest.now, value, c.in-Some.ensures)
    c.in_ok-condition.ensures.only
    c.in_default-after_word.ensures

pub operation::expression-returns-in_err-other-clause-only : goal.operation::expression-returns-in_err-other-clause-only
operation::expression-returns-in_err-other-clause-only t c =
    let value = c.in_ok-value.ensures.only in
    let condition = c.in_ok-condition.ensures.only in
    failed (IsOnly level.Conditional c.in-Some-after_word.tail.now) (IsOnly level.Conditional c.args.tokens.now) c.from_residual-in_err-other.result c.in_err-other.field-0.0
    (λ nothing. no_other c.args.tokens.now c.in-Some.tail.now c.in-Some-after_word.tail.now c.in_ok-value.value c.in_ok-condition.condition
    (c.in_ok-value.rest.now, value, c.in-Some.ensures) (c.in_ok-condition.rest.now, condition, c.in-Some-after_word.ensures)
    nothing)
    c.from_residual-in_err-other.ensures c.in_err-other.ensures.only

pub operation::expression-returns-in_err-other-clause-found : goal.operation::expression-returns-in_err-other-clause-found
operation::expression-returns-in_err-other-clause-found t c = none_read c.from_residual-in_err-other.result _ c.from_residual-in_err-other.ensures.0

pub operation::expression-returns-in_err-other-clause-shorter : goal.operation::expression-returns-in_err-other-clause-shorter
operation::expression-returns-in_err-other-clause-shorter t c = none_read c.from_residual-in_err-other.result _ c.from_residual-in_err-other.ensures.0

pub operation::expression-returns-clause-found : goal.operation::expression-returns-clause-found
operation::expression-returns-clause-found t c =
    boxed_found (Begins (Spells level.Conditional) c.args.tokens.now) _ _ c.boxed.result c.boxed.ensures
    (begins_conditional c.args.tokens.now c.in_ok-value.rest.now c.in-Some.tail.now c.in_ok-condition.rest.now c.in-Some-after_word.tail.now c.in_ok-other.rest.now c.in_ok-value.value c.in_ok-condition.condition c.in_ok-other.other c.in_ok-value.ensures.found c.in-Some.ensures c.in_ok-condition.ensures.found c.in-Some-after_word.ensures c.in_ok-other.ensures.found)

pub operation::expression-returns-clause-only : goal.operation::expression-returns-clause-only
operation::expression-returns-clause-only t c =
    boxed_only (IsOnly level.Conditional c.args.tokens.now) _ _ c.boxed.result c.boxed.ensures
    (only_conditional c.args.tokens.now c.in-Some.tail.now c.in-Some-after_word.tail.now c.in_ok-other.rest.now c.in_ok-value.value c.in_ok-condition.condition c.in_ok-other.other
    (c.in_ok-value.rest.now, c.in_ok-value.ensures.only, c.in-Some.ensures) (c.in_ok-condition.rest.now, c.in_ok-condition.ensures.only, c.in-Some-after_word.ensures) c.in_ok-other.ensures.only)

pub operation::expression-returns-clause-shorter : goal.operation::expression-returns-clause-shorter
operation::expression-returns-clause-shorter t c =
    let value = c.in_ok-value.ensures.shorter in
    let if_word = behind_shorter (is_word (codes "if")) c.in_ok-value.rest.now c.in-Some.tail.now c.in-Some.ensures in
    let condition = c.in_ok-condition.ensures.shorter in
    let else_word = behind_shorter (is_word (codes "else")) c.in_ok-condition.rest.now c.in-Some-after_word.tail.now c.in-Some-after_word.ensures in
    let other = c.in_ok-other.ensures.shorter in
    boxed_shorter c.args.tokens.now _ _ c.boxed.result c.boxed.ensures
    (omega (arith, value, if_word, condition, else_word, other))

pub operation::operand-returns-in_err-operand-clause-only : goal.operation::operand-returns-in_err-operand-clause-only
operation::operand-returns-in_err-operand-clause-only t c =
    failed (IsOnly level.Negation c.in-Some.tail.now) (ContinuesFrom c.args.level c.args.tokens.now) c.from_residual.result c.in_err-operand.field-0.0
    (λ nothing. no_not c.args.level c.args.tokens.now c.in-Some.tail.now c.requires.loosest c.requires.tightest c.in-Some.ensures
    nothing)
    c.from_residual.ensures c.in_err-operand.ensures.only

pub operation::operand-returns-in_err-operand-clause-found : goal.operation::operand-returns-in_err-operand-clause-found
operation::operand-returns-in_err-operand-clause-found t c = none_read c.from_residual.result _ c.from_residual.ensures.0

pub operation::operand-returns-in_err-operand-clause-shorter : goal.operation::operand-returns-in_err-operand-clause-shorter
operation::operand-returns-in_err-operand-clause-shorter t c = none_read c.from_residual.result _ c.from_residual.ensures.0

pub operation::operand-returns-in-Some-clause-found :
    goal.operation::operand-returns-in-Some-clause-found
operation::operand-returns-in-Some-clause-found t c =
    let operand = c.in_ok-operand.ensures.found in (
      subst (λ (e : Expr). Begins (Spells level.Negation) c.args.tokens.now e c.in_ok-operand.rest.now) (sym c.in_ok-negation.ensures)
          (begins_not c.args.tokens.now c.in-Some.tail.now c.in_ok-operand.rest.now c.in_ok-operand.operand c.in-Some.ensures operand),
      inr (refl, omega (arith, c.if-rank.true, c.rank.ensures, c.rank-2.ensures)),
    )

pub operation::operand-returns-in-Some-clause-only :
    goal.operation::operand-returns-in-Some-clause-only
operation::operand-returns-in-Some-clause-only t c =
    let operand = c.in_ok-operand.ensures.only in
    subst (λ (e : Expr). ContinuesFrom c.args.level c.args.tokens.now (Some ((e, level.Negation), c.in_ok-operand.rest.now))) (sym c.in_ok-negation.ensures)
    (goes_not c.args.level c.args.tokens.now c.in-Some.tail.now c.in_ok-operand.rest.now c.in_ok-operand.operand c.requires.loosest c.requires.tightest c.in-Some.ensures operand)

pub operation::operand-returns-in_err-operand-2-clause-only : goal.operation::operand-returns-in_err-operand-2-clause-only
operation::operand-returns-in_err-operand-2-clause-only t c =
    failed (IsOnly level.Unary c.args.tokens.now) (ContinuesFrom c.args.level c.args.tokens.now) c.from_residual-in_err-operand-2.result c.in_err-operand-2.field-0.0
    (λ nothing. let none : rank c.args.level ≤ 3 → IsNotFirst (is_word (codes "not")) c.args.tokens.now = elim c.if-rank.branch [
      | operation::operand-then-rank+in_default w ↦ λ loose. w.in_default.ensures
      | operation::operand-else-rank w ↦ λ loose. absurd (omega (arith, loose, w.if-rank.false, c.rank.ensures, c.rank-2.ensures))
    ] in
    no_first c.args.level c.args.tokens.now c.requires.loosest c.requires.tightest none
    nothing)
    c.from_residual-in_err-operand-2.ensures c.in_err-operand-2.ensures.only

pub operation::operand-returns-in_err-operand-2-clause-found : goal.operation::operand-returns-in_err-operand-2-clause-found
operation::operand-returns-in_err-operand-2-clause-found t c = none_read c.from_residual-in_err-operand-2.result _ c.from_residual-in_err-operand-2.ensures.0

pub operation::operand-returns-in_err-operand-2-clause-shorter : goal.operation::operand-returns-in_err-operand-2-clause-shorter
operation::operand-returns-in_err-operand-2-clause-shorter t c = none_read c.from_residual-in_err-operand-2.result _ c.from_residual-in_err-operand-2.ensures.0

pub operation::operand-returns-clause-only : goal.operation::operand-returns-clause-only
operation::operand-returns-clause-only t c =
    let none : rank c.args.level ≤ 3 → IsNotFirst (is_word (codes "not")) c.args.tokens.now = elim c.if-rank.branch [
      | operation::operand-then-rank+in_default w ↦ λ loose. w.in_default.ensures
      | operation::operand-else-rank w ↦ λ loose. absurd (omega (arith, loose, w.if-rank.false, c.rank.ensures, c.rank-2.ensures))
    ] in
    goes_first c.args.level c.args.tokens.now c.in_ok-operand-2.rest.now c.in_ok-operand-2.operand c.requires.loosest c.requires.tightest none
    c.in_ok-operand-2.ensures.only

pub operation::operation-returns-in_err-first-clause-only : goal.operation::operation-returns-in_err-first-clause-only
operation::operation-returns-in_err-first-clause-only t c =
    failed (ContinuesFrom c.args.level c.args.tokens.now) (IsOnly c.args.level c.args.tokens.now) c.from_residual.result c.in_err-first.field-0.0
    (λ nothing. nothing)
    c.from_residual.ensures c.in_err-first.ensures.only

pub operation::operation-returns-in_err-first-clause-found : goal.operation::operation-returns-in_err-first-clause-found
operation::operation-returns-in_err-first-clause-found t c = none_read c.from_residual.result _ c.from_residual.ensures.0

pub operation::operation-returns-in_err-first-clause-shorter : goal.operation::operation-returns-in_err-first-clause-shorter
operation::operation-returns-in_err-first-clause-shorter t c = none_read c.from_residual.result _ c.from_residual.ensures.0

pub operation::operation-operators-init : goal.operation::operation-operators-init
operation::operation-operators-init t c =
    let found = c.in_ok-first.ensures.found in
    let within = operand_within c.args.level c.in_ok-first.first.1 c.requires.tightest found.1 in
    record {
      found = found.0;
      only = c.in_ok-first.ensures.only;
      loosest = within.0;
      tightest = within.1;
      shorter = c.in_ok-first.ensures.shorter;
    }

pub operation::operation-returns-in_err-right-clause-only : goal.operation::operation-returns-in_err-right-clause-only
operation::operation-returns-in_err-right-clause-only t c =
    let next = c.in-Some.ensures in
    failed (IsOnly c.tighter.result c.in-Some.tail.now) (IsOnly c.args.level c.args.tokens.now) c.from_residual-in_err-right.result c.in_err-right.field-0.0
    (λ nothing. let right = nothing in
    let at_level = subst (λ (l : Level). IsOnly l c.in-Some.tail.now None) c.tighter.ensures right in
    no_next c.args.level c.operators.bound c.args.tokens.now c.operators.rest.now c.in-Some.tail.now c.operators.tree c.in-Some.operator
    c.operators.invariant.tightest c.operators.invariant.only next at_level)
    c.from_residual-in_err-right.ensures c.in_err-right.ensures.only

pub operation::operation-returns-in_err-right-clause-found : goal.operation::operation-returns-in_err-right-clause-found
operation::operation-returns-in_err-right-clause-found t c = none_read c.from_residual-in_err-right.result _ c.from_residual-in_err-right.ensures.0

pub operation::operation-returns-in_err-right-clause-shorter : goal.operation::operation-returns-in_err-right-clause-shorter
operation::operation-returns-in_err-right-clause-shorter t c = none_read c.from_residual-in_err-right.result _ c.from_residual-in_err-right.ensures.0

pub operation::operation-operators-preserved : goal.operation::operation-operators-preserved
operation::operation-operators-preserved t c =
    let next = c.in-Some.ensures in
    let operator = c.in-Some.operator in
    let kept = c.operators.invariant in
    let found = c.in_ok-right.ensures.found in
    let only = c.in_ok-right.ensures.only in
    let found_at = subst (λ (l : Level). Begins (Spells l) c.in-Some.tail.now c.in_ok-right.right c.in_ok-right.after.now) c.tighter.ensures found in
    let only_at = subst (λ (l : Level). IsOnly l c.in-Some.tail.now (Some (c.in_ok-right.right, c.in_ok-right.after.now))) c.tighter.ensures only in
    let short = c.in_ok-right.ensures.shorter in
    let front : length c.operators.rest.now ≡ length c.in-Some.tail.now + 1 = ap (λ (xs : List Token). length xs) next.front ∙ omega arith in
    let within = goes_within c.args.level c.operators.bound operator.level next.goes in
    record {
      found = subst (λ (e : Expr). Begins (Spells operator.level) c.args.tokens.now e c.in_ok-right.after.now) (sym c.in_ok-tree.ensures)
          (begins_next c.args.level c.operators.bound c.args.tokens.now c.operators.rest.now c.in-Some.tail.now c.in_ok-right.after.now c.operators.tree c.in_ok-right.right operator
          kept.tightest kept.found next found_at);
      only = subst (λ (e : Expr). ContinuesFrom c.args.level c.args.tokens.now (Some ((e, operator.level), c.in_ok-right.after.now))) (sym c.in_ok-tree.ensures)
          (goes_next c.args.level c.operators.bound c.args.tokens.now c.operators.rest.now c.in-Some.tail.now c.in_ok-right.after.now c.operators.tree c.in_ok-right.right operator
          kept.tightest kept.only next only_at);
      loosest = (goes_parts c.args.level c.operators.bound operator.level next.goes).0;
      tightest = omega (arith, within, kept.tightest);
      shorter = omega (arith, short, front, kept.shorter);
    }

pub operation::operation-returns-clause-found : goal.operation::operation-returns-clause-found
operation::operation-returns-clause-found t c =
    begins_looser c.args.level c.operators.bound c.args.tokens.now c.operators.rest.now c.operators.tree c.operators.invariant.loosest c.operators.invariant.found

pub operation::operation-returns-clause-only : goal.operation::operation-returns-clause-only
operation::operation-returns-clause-only t c =
    only_done c.args.level c.operators.bound c.args.tokens.now c.operators.rest.now c.operators.tree c.operators.invariant.only c.in_default.ensures

pub operand::signed-returns-in_default-clause-only : goal.operand::signed-returns-in_default-clause-only
operand::signed-returns-in_default-clause-only t c =
    no_operand_there c.args.tokens.now (nil_from_length c.args.tokens.now c.in_default.ensures.cases)

pub operand::signed-returns-in_default-sign_of-clause-found : goal.operand::signed-returns-in_default-sign_of-clause-found
operand::signed-returns-in_default-sign_of-clause-found t c =
    found_ok c.power.result (λ a rest. Begins (Spells level.Power) c.args.tokens.now a rest) (λ a rest. Begins (Spells level.Unary) c.args.tokens.now a rest) (λ a rest begins. begins_unsigned c.args.tokens.now rest a begins) c.power.ensures.found

pub operand::signed-returns-in_default-sign_of-clause-only : goal.operand::signed-returns-in_default-sign_of-clause-only
operand::signed-returns-in_default-sign_of-clause-only t c =
    only_ok c.power.result (IsOnly level.Power c.args.tokens.now) (IsOnly level.Unary c.args.tokens.now) (λ read only. only_unsigned c.args.tokens.now c.in-Some.tail.now c.in-Some.first.now read c.in-Some.ensures.cases.0 (sym c.in_default-sign_of.ensures) only) c.power.ensures.only

pub operand::signed-returns-in_err-operand-clause-only : goal.operand::signed-returns-in_err-operand-clause-only
operand::signed-returns-in_err-operand-clause-only t c =
    failed (IsOnly level.Unary c.in-Some.tail.now) (IsOnly level.Unary c.args.tokens.now) c.from_residual.result c.in_err-operand.field-0.0
    (λ nothing. no_signed c.args.tokens.now c.in-Some.tail.now c.in-Some.first.now c.in-Some-sign_of.sign c.in-Some.ensures.cases.0 (sym c.in-Some-sign_of.ensures)
    nothing)
    c.from_residual.ensures c.in_err-operand.ensures.only

pub operand::signed-returns-in_err-operand-clause-found : goal.operand::signed-returns-in_err-operand-clause-found
operand::signed-returns-in_err-operand-clause-found t c = none_read c.from_residual.result _ c.from_residual.ensures.0

pub operand::signed-returns-in_err-operand-clause-shorter : goal.operand::signed-returns-in_err-operand-clause-shorter
operand::signed-returns-in_err-operand-clause-shorter t c = none_read c.from_residual.result _ c.from_residual.ensures.0

pub operand::signed-returns-clause-found : goal.operand::signed-returns-clause-found
operand::signed-returns-clause-found t c =
    boxed_found (Begins (Spells level.Unary) c.args.tokens.now) _ _ c.boxed.result c.boxed.ensures
    (begins_signed c.args.tokens.now c.in-Some.tail.now c.in_ok-operand.rest.now c.in-Some.first.now c.in-Some-sign_of.sign c.in_ok-operand.operand c.in-Some.ensures.cases.0 (sym c.in-Some-sign_of.ensures) c.in_ok-operand.ensures.found)

pub operand::signed-returns-clause-only : goal.operand::signed-returns-clause-only
operand::signed-returns-clause-only t c =
    boxed_only (IsOnly level.Unary c.args.tokens.now) _ _ c.boxed.result c.boxed.ensures
    (only_signed c.args.tokens.now c.in-Some.tail.now c.in_ok-operand.rest.now c.in-Some.first.now c.in-Some-sign_of.sign c.in_ok-operand.operand c.in-Some.ensures.cases.0 (sym c.in-Some-sign_of.ensures) c.in_ok-operand.ensures.only)

pub operand::signed-returns-clause-shorter : goal.operand::signed-returns-clause-shorter
operand::signed-returns-clause-shorter t c =
    let first = ap length c.in-Some.ensures.cases.0 in
    let short = c.in_ok-operand.ensures.shorter in
    boxed_shorter c.args.tokens.now _ _ c.boxed.result c.boxed.ensures
    (omega (arith, first, short))

pub operand::power-returns-in_err-base-clause-only : goal.operand::power-returns-in_err-base-clause-only
operand::power-returns-in_err-base-clause-only t c =
    failed (IsOnly level.Postfix c.args.tokens.now) (IsOnly level.Power c.args.tokens.now) c.from_residual.result c.in_err-base.field-0.0
    (λ nothing. no_base c.args.tokens.now nothing)
    c.from_residual.ensures c.in_err-base.ensures.only

pub operand::power-returns-in_err-base-clause-found : goal.operand::power-returns-in_err-base-clause-found
operand::power-returns-in_err-base-clause-found t c = none_read c.from_residual.result _ c.from_residual.ensures.0

pub operand::power-returns-in_err-base-clause-shorter : goal.operand::power-returns-in_err-base-clause-shorter
operand::power-returns-in_err-base-clause-shorter t c = none_read c.from_residual.result _ c.from_residual.ensures.0

pub operand::power-returns-in_default-clause-found : goal.operand::power-returns-in_default-clause-found
operand::power-returns-in_default-clause-found t c =
    begins_power c.args.tokens.now c.in_ok-base.rest.now c.in_ok-base.base
    c.in_ok-base.ensures.found

pub operand::power-returns-in_default-clause-only : goal.operand::power-returns-in_default-clause-only
operand::power-returns-in_default-clause-only t c =
    only_base c.args.tokens.now c.in_ok-base.rest.now c.in_ok-base.base
    c.in_ok-base.ensures.only c.in_default.ensures

pub operand::power-returns-in_err-exponent-clause-only : goal.operand::power-returns-in_err-exponent-clause-only
operand::power-returns-in_err-exponent-clause-only t c =
    failed (IsOnly level.Unary c.in-Some.tail.now) (IsOnly level.Power c.args.tokens.now) c.from_residual-in_err-exponent.result c.in_err-exponent.field-0.0
    (λ nothing. no_exponent c.args.tokens.now c.in_ok-base.rest.now c.in-Some.tail.now c.in_ok-base.base
    c.in_ok-base.ensures.only c.in-Some.ensures
    nothing)
    c.from_residual-in_err-exponent.ensures c.in_err-exponent.ensures.only

pub operand::power-returns-in_err-exponent-clause-found : goal.operand::power-returns-in_err-exponent-clause-found
operand::power-returns-in_err-exponent-clause-found t c = none_read c.from_residual-in_err-exponent.result _ c.from_residual-in_err-exponent.ensures.0

pub operand::power-returns-in_err-exponent-clause-shorter : goal.operand::power-returns-in_err-exponent-clause-shorter
operand::power-returns-in_err-exponent-clause-shorter t c = none_read c.from_residual-in_err-exponent.result _ c.from_residual-in_err-exponent.ensures.0

pub operand::power-returns-clause-found : goal.operand::power-returns-clause-found
operand::power-returns-clause-found t c =
    boxed_found (Begins (Spells level.Power) c.args.tokens.now) _ _ c.boxed.result c.boxed.ensures
    (power_found c.args.tokens.now c.in_ok-base.rest.now c.in-Some.tail.now c.in_ok-exponent.rest.now c.in_ok-base.base c.in_ok-exponent.exponent c.in_ok-base.ensures.found c.in-Some.ensures c.in_ok-exponent.ensures.found)

pub operand::power-returns-clause-only : goal.operand::power-returns-clause-only
operand::power-returns-clause-only t c =
    boxed_only (IsOnly level.Power c.args.tokens.now) _ _ c.boxed.result c.boxed.ensures
    (only_power c.args.tokens.now c.in_ok-base.rest.now c.in-Some.tail.now c.in_ok-exponent.rest.now c.in_ok-base.base c.in_ok-exponent.exponent c.in_ok-base.ensures.only c.in-Some.ensures c.in_ok-exponent.ensures.only)

pub operand::power-returns-clause-shorter : goal.operand::power-returns-clause-shorter
operand::power-returns-clause-shorter t c =
    let base = c.in_ok-base.ensures.shorter in
    let sign = behind_shorter (is_symbol (codes "**")) c.in_ok-base.rest.now c.in-Some.tail.now c.in-Some.ensures in
    let exponent = c.in_ok-exponent.ensures.shorter in
    boxed_shorter c.args.tokens.now _ _ c.boxed.result c.boxed.ensures
    (omega (arith, base, sign, exponent))

pub operand::suffixed-returns-in_err-tree-clause-only : goal.operand::suffixed-returns-in_err-tree-clause-only
operand::suffixed-returns-in_err-tree-clause-only t c =
    failed (IsOnly level.Atom c.args.tokens.now) (IsOnly level.Postfix c.args.tokens.now) c.from_residual.result c.in_err-tree.field-0.0
    (λ nothing. no_atom c.args.tokens.now nothing)
    c.from_residual.ensures c.in_err-tree.ensures.only

pub operand::suffixed-returns-in_err-tree-clause-found : goal.operand::suffixed-returns-in_err-tree-clause-found
operand::suffixed-returns-in_err-tree-clause-found t c = none_read c.from_residual.result _ c.from_residual.ensures.0

pub operand::suffixed-returns-in_err-tree-clause-shorter : goal.operand::suffixed-returns-in_err-tree-clause-shorter
operand::suffixed-returns-in_err-tree-clause-shorter t c = none_read c.from_residual.result _ c.from_residual.ensures.0

pub operand::suffixed-suffixes-init : goal.operand::suffixed-suffixes-init
operand::suffixed-suffixes-init t c =
    record {
      found = begins_postfix c.args.tokens.now c.in_ok-tree.rest.now c.in_ok-tree.tree c.in_ok-tree.ensures.found;
      only = goes_atom c.args.tokens.now c.in_ok-tree.rest.now c.in_ok-tree.tree c.in_ok-tree.ensures.only;
      shorter = c.in_ok-tree.ensures.shorter;
    }

pub operand::suffixed-suffixes-preserved : goal.operand::suffixed-suffixes-preserved
operand::suffixed-suffixes-preserved t c =
    let short = c.in_ok-longer.ensures.shorter in
    record {
      found = begins_longer c.args.tokens.now c.suffixes.rest.now c.in_ok-longer.after.now c.suffixes.tree c.in_ok-longer.longer c.suffixes.invariant.found c.in_ok-longer.ensures.found;
      only = goes_suffix c.args.tokens.now c.suffixes.rest.now c.in_ok-longer.after.now c.suffixes.tree c.in_ok-longer.longer (sym c.suffixes-test.ensures) c.suffixes.invariant.only c.in_ok-longer.ensures.only;
      shorter = omega (arith, short, c.suffixes.invariant.shorter);
    }

pub operand::suffixed-returns-in_err-longer-clause-only : goal.operand::suffixed-returns-in_err-longer-clause-only
operand::suffixed-returns-in_err-longer-clause-only t c =
    failed (IsOnlyBeginning (SpellsSuffix c.suffixes.tree) c.suffixes.rest.now) (IsOnly level.Postfix c.args.tokens.now) c.from_residual-in_err-longer.result c.in_err-longer.field-0.0
    (λ nothing. no_suffix c.args.tokens.now c.suffixes.rest.now c.suffixes.tree (sym c.suffixes-test.ensures) c.suffixes.invariant.only nothing)
    c.from_residual-in_err-longer.ensures c.in_err-longer.ensures.only

pub operand::suffixed-returns-in_err-longer-clause-found : goal.operand::suffixed-returns-in_err-longer-clause-found
operand::suffixed-returns-in_err-longer-clause-found t c = none_read c.from_residual-in_err-longer.result _ c.from_residual-in_err-longer.ensures.0

pub operand::suffixed-returns-in_err-longer-clause-shorter : goal.operand::suffixed-returns-in_err-longer-clause-shorter
operand::suffixed-returns-in_err-longer-clause-shorter t c = none_read c.from_residual-in_err-longer.result _ c.from_residual-in_err-longer.ensures.0

pub operand::suffixed-returns-clause-only : goal.operand::suffixed-returns-clause-only
operand::suffixed-returns-clause-only t c =
    only_postfix c.args.tokens.now c.suffixes.rest.now c.suffixes.tree (sym c.suffixes-test.ensures) c.suffixes.invariant.only

pub operand::suffix-returns-in-Some-clause-found : goal.operand::suffix-returns-in-Some-clause-found
operand::suffix-returns-in-Some-clause-found t c =
    found_ok c.attribute.result (λ a rest. Begins (SpellsAttribute c.args.tree) c.in-Some.tail.now a rest) (λ a rest. Begins (SpellsSuffix c.args.tree) c.args.tokens.now a rest)
    (λ a rest begins. begins_attribute c.args.tokens.now c.in-Some.tail.now rest c.args.tree a c.in-Some.ensures begins) c.attribute.ensures.found

pub operand::suffix-returns-in-Some-clause-only : goal.operand::suffix-returns-in-Some-clause-only
operand::suffix-returns-in-Some-clause-only t c =
    only_ok c.attribute.result (IsOnlyBeginning (SpellsAttribute c.args.tree) c.in-Some.tail.now) (IsOnlyBeginning (SpellsSuffix c.args.tree) c.args.tokens.now)
    (λ read only. only_suffix_attribute c.args.tokens.now c.in-Some.tail.now c.args.tree read c.in-Some.ensures only) c.attribute.ensures.only

pub operand::suffix-returns-in-Some-after_symbol-3-clause-found : goal.operand::suffix-returns-in-Some-after_symbol-3-clause-found
operand::suffix-returns-in-Some-after_symbol-3-clause-found t c =
    found_ok c.subscript.result (λ a rest. Begins (SpellsSubscript c.args.tree) c.in-Some-after_symbol-3.tail.now a rest) (λ a rest. Begins (SpellsSuffix c.args.tree) c.args.tokens.now a rest)
    (λ a rest begins. begins_place c.args.tokens.now c.in-Some-after_symbol-3.tail.now rest c.args.tree a c.in-Some-after_symbol-3.ensures begins) c.subscript.ensures.found

pub operand::suffix-returns-in-Some-after_symbol-3-clause-only : goal.operand::suffix-returns-in-Some-after_symbol-3-clause-only
operand::suffix-returns-in-Some-after_symbol-3-clause-only t c =
    only_ok c.subscript.result (IsOnlyBeginning (SpellsSubscript c.args.tree) c.in-Some-after_symbol-3.tail.now) (IsOnlyBeginning (SpellsSuffix c.args.tree) c.args.tokens.now)
    (λ read only. only_suffix_place c.args.tokens.now c.in-Some-after_symbol-3.tail.now c.args.tree read c.in-Some-after_symbol-3.ensures only) c.subscript.ensures.only

pub operand::suffix-returns-in_err-arguments-clause-only : goal.operand::suffix-returns-in_err-arguments-clause-only
operand::suffix-returns-in_err-arguments-clause-only t c =
    failed (IsOnlyBefore SpellsArguments (codes ")") c.in-Some-after_symbol.tail.now) (IsOnlyBeginning (SpellsSuffix c.args.tree) c.args.tokens.now) c.from_residual.result c.in_err-arguments.field-0.0
    (λ nothing. only_suffix_call c.args.tokens.now c.in-Some-after_symbol.tail.now c.args.tree None c.in-Some-after_symbol.ensures
    (no_call c.in-Some-after_symbol.tail.now c.args.tree nothing))
    c.from_residual.ensures c.in_err-arguments.ensures.only

pub operand::suffix-returns-in_err-arguments-clause-found : goal.operand::suffix-returns-in_err-arguments-clause-found
operand::suffix-returns-in_err-arguments-clause-found t c = none_read c.from_residual.result _ c.from_residual.ensures.0

pub operand::suffix-returns-in_err-arguments-clause-shorter : goal.operand::suffix-returns-in_err-arguments-clause-shorter
operand::suffix-returns-in_err-arguments-clause-shorter t c = none_read c.from_residual.result _ c.from_residual.ensures.0

pub operand::suffix-returns-in_default-after_symbol-2-clause-only : goal.operand::suffix-returns-in_default-after_symbol-2-clause-only
operand::suffix-returns-in_default-after_symbol-2-clause-only t c =
    only_suffix_call c.args.tokens.now c.in-Some-after_symbol.tail.now c.args.tree None c.in-Some-after_symbol.ensures
    (open_call c.in-Some-after_symbol.tail.now c.in_ok-arguments.rest.now c.args.tree c.in_ok-arguments.arguments c.in_ok-arguments.ensures.only c.in_default-after_symbol-2.ensures)

pub operand::suffix-returns-in-Some-after_symbol-clause-found : goal.operand::suffix-returns-in-Some-after_symbol-clause-found
operand::suffix-returns-in-Some-after_symbol-clause-found t c =
    boxed_found (Begins (SpellsSuffix c.args.tree) c.args.tokens.now) _ _ c.boxed.result c.boxed.ensures
    (begins_call c.args.tokens.now c.in-Some-after_symbol.tail.now c.in_ok-arguments.rest.now c.in-Some-after_symbol-2.rest.now c.args.tree c.in_ok-arguments.arguments c.in-Some-after_symbol.ensures c.in_ok-arguments.ensures.found c.in-Some-after_symbol-2.ensures)

pub operand::suffix-returns-in-Some-after_symbol-clause-only : goal.operand::suffix-returns-in-Some-after_symbol-clause-only
operand::suffix-returns-in-Some-after_symbol-clause-only t c =
    boxed_only (IsOnlyBeginning (SpellsSuffix c.args.tree) c.args.tokens.now) _ _ c.boxed.result c.boxed.ensures
    (only_suffix_call c.args.tokens.now c.in-Some-after_symbol.tail.now c.args.tree (Some (expr.Call c.args.tree c.in_ok-arguments.arguments, c.in-Some-after_symbol-2.rest.now)) c.in-Some-after_symbol.ensures
    (only_call c.in-Some-after_symbol.tail.now c.in_ok-arguments.rest.now c.in-Some-after_symbol-2.rest.now c.args.tree c.in_ok-arguments.arguments c.in_ok-arguments.ensures.only c.in-Some-after_symbol-2.ensures))

pub operand::suffix-returns-in-Some-after_symbol-clause-shorter : goal.operand::suffix-returns-in-Some-after_symbol-clause-shorter
operand::suffix-returns-in-Some-after_symbol-clause-shorter t c =
    let opening = behind_shorter (is_symbol (codes "(")) c.args.tokens.now c.in-Some-after_symbol.tail.now c.in-Some-after_symbol.ensures in
    let arguments = c.in_ok-arguments.ensures.no_longer in
    let closing = behind_shorter (is_symbol (codes ")")) c.in_ok-arguments.rest.now c.in-Some-after_symbol-2.rest.now c.in-Some-after_symbol-2.ensures in
    boxed_shorter c.args.tokens.now _ _ c.boxed.result c.boxed.ensures
    (omega (arith, opening, arguments, closing))

pub operand::subscript-returns-in_err-low-clause-only : goal.operand::subscript-returns-in_err-low-clause-only
operand::subscript-returns-in_err-low-clause-only t c =
    failed (IsOnly level.Conditional c.args.tokens.now) (IsOnlyBeginning (SpellsSubscript c.args.tree) c.args.tokens.now) c.from_residual.result c.in_err-low.field-0.0
    (λ nothing. no_place c.args.tokens.now c.args.tree nothing)
    c.from_residual.ensures c.in_err-low.ensures.only

pub operand::subscript-returns-in_err-low-clause-found : goal.operand::subscript-returns-in_err-low-clause-found
operand::subscript-returns-in_err-low-clause-found t c = none_read c.from_residual.result _ c.from_residual.ensures.0

pub operand::subscript-returns-in_err-low-clause-shorter : goal.operand::subscript-returns-in_err-low-clause-shorter
operand::subscript-returns-in_err-low-clause-shorter t c = none_read c.from_residual.result _ c.from_residual.ensures.0

pub operand::subscript-returns-in-Some-clause-found : goal.operand::subscript-returns-in-Some-clause-found
operand::subscript-returns-in-Some-clause-found t c =
    boxed_found (Begins (SpellsSubscript c.args.tree) c.args.tokens.now) _ _ c.boxed.result c.boxed.ensures
    (index_found c.args.tokens.now c.in_ok-low.rest.now c.in-Some.rest.now c.args.tree c.in_ok-low.low c.in_ok-low.ensures.found c.in-Some.ensures)

pub operand::subscript-returns-in-Some-clause-only : goal.operand::subscript-returns-in-Some-clause-only
operand::subscript-returns-in-Some-clause-only t c =
    boxed_only (IsOnlyBeginning (SpellsSubscript c.args.tree) c.args.tokens.now) _ _ c.boxed.result c.boxed.ensures
    (only_index c.args.tokens.now c.in_ok-low.rest.now c.in-Some.rest.now c.args.tree c.in_ok-low.low c.in_ok-low.ensures.only c.in-Some.ensures)

pub operand::subscript-returns-in-Some-clause-shorter : goal.operand::subscript-returns-in-Some-clause-shorter
operand::subscript-returns-in-Some-clause-shorter t c =
    let low = c.in_ok-low.ensures.shorter in
    let closing = behind_shorter (is_symbol (codes "]")) c.in_ok-low.rest.now c.in-Some.rest.now c.in-Some.ensures in
    boxed_shorter c.args.tokens.now _ _ c.boxed.result c.boxed.ensures
    (omega (arith, low, closing))

pub operand::subscript-returns-in_default-after_symbol-clause-only : goal.operand::subscript-returns-in_default-after_symbol-clause-only
operand::subscript-returns-in_default-after_symbol-clause-only t c =
    no_place_behind c.args.tokens.now c.in_ok-low.rest.now c.args.tree c.in_ok-low.low c.in_ok-low.ensures.only c.in_default.ensures c.in_default-after_symbol.ensures

pub operand::subscript-returns-in_err-high-clause-only : goal.operand::subscript-returns-in_err-high-clause-only
operand::subscript-returns-in_err-high-clause-only t c =
    failed (IsOnly level.Conditional c.in-Some-after_symbol.tail.now) (IsOnlyBeginning (SpellsSubscript c.args.tree) c.args.tokens.now) c.from_residual-in_err-high.result c.in_err-high.field-0.0
    (λ nothing. no_slice c.args.tokens.now c.in_ok-low.rest.now c.in-Some-after_symbol.tail.now c.args.tree c.in_ok-low.low c.in_ok-low.ensures.only c.in_default.ensures c.in-Some-after_symbol.ensures
    nothing)
    c.from_residual-in_err-high.ensures c.in_err-high.ensures.only

pub operand::subscript-returns-in_err-high-clause-found : goal.operand::subscript-returns-in_err-high-clause-found
operand::subscript-returns-in_err-high-clause-found t c = none_read c.from_residual-in_err-high.result _ c.from_residual-in_err-high.ensures.0

pub operand::subscript-returns-in_err-high-clause-shorter : goal.operand::subscript-returns-in_err-high-clause-shorter
operand::subscript-returns-in_err-high-clause-shorter t c = none_read c.from_residual-in_err-high.result _ c.from_residual-in_err-high.ensures.0

pub operand::subscript-returns-in_default-after_symbol-2-clause-only : goal.operand::subscript-returns-in_default-after_symbol-2-clause-only
operand::subscript-returns-in_default-after_symbol-2-clause-only t c =
    open_slice c.args.tokens.now c.in_ok-low.rest.now c.in-Some-after_symbol.tail.now c.in_ok-high.rest.now c.args.tree c.in_ok-low.low c.in_ok-high.high c.in_ok-low.ensures.only c.in_default.ensures c.in-Some-after_symbol.ensures
    c.in_ok-high.ensures.only c.in_default-after_symbol-2.ensures

pub operand::subscript-returns-clause-found : goal.operand::subscript-returns-clause-found
operand::subscript-returns-clause-found t c =
    boxed_found (Begins (SpellsSubscript c.args.tree) c.args.tokens.now) _ _ c.boxed-2.result c.boxed-2.ensures
    (slice_found c.args.tokens.now c.in_ok-low.rest.now c.in-Some-after_symbol.tail.now c.in_ok-high.rest.now c.in-Some-after_symbol-2.rest.now c.args.tree c.in_ok-low.low c.in_ok-high.high c.in_ok-low.ensures.found c.in-Some-after_symbol.ensures
    c.in_ok-high.ensures.found c.in-Some-after_symbol-2.ensures)

pub operand::subscript-returns-clause-only : goal.operand::subscript-returns-clause-only
operand::subscript-returns-clause-only t c =
    boxed_only (IsOnlyBeginning (SpellsSubscript c.args.tree) c.args.tokens.now) _ _ c.boxed-2.result c.boxed-2.ensures
    (only_slice c.args.tokens.now c.in_ok-low.rest.now c.in-Some-after_symbol.tail.now c.in_ok-high.rest.now c.in-Some-after_symbol-2.rest.now c.args.tree c.in_ok-low.low c.in_ok-high.high c.in_ok-low.ensures.only c.in_default.ensures c.in-Some-after_symbol.ensures
    c.in_ok-high.ensures.only c.in-Some-after_symbol-2.ensures)

pub operand::subscript-returns-clause-shorter : goal.operand::subscript-returns-clause-shorter
operand::subscript-returns-clause-shorter t c =
    let low = c.in_ok-low.ensures.shorter in
    let colon = behind_shorter (is_symbol (codes ":")) c.in_ok-low.rest.now c.in-Some-after_symbol.tail.now c.in-Some-after_symbol.ensures in
    let high = c.in_ok-high.ensures.shorter in
    let closing = behind_shorter (is_symbol (codes "]")) c.in_ok-high.rest.now c.in-Some-after_symbol-2.rest.now c.in-Some-after_symbol-2.ensures in
    boxed_shorter c.args.tokens.now _ _ c.boxed-2.result c.boxed-2.ensures
    (omega (arith, low, colon, high, closing))

pub operand::atom-returns-in-Some-clause-found : goal.operand::atom-returns-in-Some-clause-found
operand::atom-returns-in-Some-clause-found t c =
    found_ok c.group.result (λ a rest. Begins SpellsGroup c.in-Some.tail.now a rest) (λ a rest. Begins (Spells level.Atom) c.args.tokens.now a rest)
    (λ a rest begins. begins_group c.args.tokens.now c.in-Some.tail.now rest a c.in-Some.ensures begins) c.group.ensures.found

pub operand::atom-returns-in-Some-clause-only : goal.operand::atom-returns-in-Some-clause-only
operand::atom-returns-in-Some-clause-only t c =
    only_ok c.group.result (IsOnlyBeginning SpellsGroup c.in-Some.tail.now) (IsOnly level.Atom c.args.tokens.now)
    (λ read only. atom_of_group c.args.tokens.now c.in-Some.tail.now read c.in-Some.ensures only) c.group.ensures.only

pub operand::atom-returns-in-Some-after_symbol-clause-found : goal.operand::atom-returns-in-Some-after_symbol-clause-found
operand::atom-returns-in-Some-after_symbol-clause-found t c =
    found_ok c.list.result (λ a rest. Begins SpellsList c.in-Some-after_symbol.tail.now a rest) (λ a rest. Begins (Spells level.Atom) c.args.tokens.now a rest)
    (λ a rest begins. begins_list c.args.tokens.now c.in-Some-after_symbol.tail.now rest a c.in-Some-after_symbol.ensures begins) c.list.ensures.found

pub operand::atom-returns-in-Some-after_symbol-clause-only : goal.operand::atom-returns-in-Some-after_symbol-clause-only
operand::atom-returns-in-Some-after_symbol-clause-only t c =
    only_ok c.list.result (IsOnlyBeginning SpellsList c.in-Some-after_symbol.tail.now) (IsOnly level.Atom c.args.tokens.now)
    (λ read only. atom_of_list c.args.tokens.now c.in-Some-after_symbol.tail.now read c.in-Some-after_symbol.ensures only) c.list.ensures.only

pub operand::atom-returns-in_default-split_first-clause-only : goal.operand::atom-returns-in_default-split_first-clause-only
operand::atom-returns-in_default-split_first-clause-only t c =
    no_tokens c.args.tokens.now (nil_from_length c.args.tokens.now c.in_default-split_first.ensures.cases)

pub operand::atom-returns-in_err-tree-clause-found : goal.operand::atom-returns-in_err-tree-clause-found
operand::atom-returns-in_err-tree-clause-found t c = none_read c.from_residual.result _ c.from_residual.ensures.0

pub operand::atom-returns-in_err-tree-clause-only : goal.operand::atom-returns-in_err-tree-clause-only
operand::atom-returns-in_err-tree-clause-only t c =
    not_given ((e : Expr) → SpellsLeaf c.in-Some-split_first.first.now e → ⊥) (IsOnly level.Atom c.args.tokens.now) c.from_residual.result c.in_err-tree.field-0.0
    (λ never. no_atom_there c.args.tokens.now c.in-Some-split_first.rest.now c.in-Some-split_first.first.now c.in-Some-split_first.ensures.cases.0 c.in_default.ensures c.in_default-after_symbol.ensures never)
    c.from_residual.ensures c.in_err-tree.ensures.only

pub operand::atom-returns-in_err-tree-clause-shorter : goal.operand::atom-returns-in_err-tree-clause-shorter
operand::atom-returns-in_err-tree-clause-shorter t c = none_read c.from_residual.result _ c.from_residual.ensures.0

pub operand::atom-returns-clause-found : goal.operand::atom-returns-clause-found
operand::atom-returns-clause-found t c =
    boxed_found (Begins (Spells level.Atom) c.args.tokens.now) _ _ c.boxed.result c.boxed.ensures
    (begins_leaf c.args.tokens.now c.in-Some-split_first.rest.now c.in-Some-split_first.first.now c.in_ok-tree.tree c.in-Some-split_first.ensures.cases.0 c.in_ok-tree.ensures.found)

pub operand::atom-returns-clause-only : goal.operand::atom-returns-clause-only
operand::atom-returns-clause-only t c =
    boxed_only (IsOnly level.Atom c.args.tokens.now) _ _ c.boxed.result c.boxed.ensures
    (only_leaf c.args.tokens.now c.in-Some-split_first.rest.now c.in-Some-split_first.first.now c.in_ok-tree.tree c.in-Some-split_first.ensures.cases.0 c.in_default.ensures c.in_default-after_symbol.ensures c.in_ok-tree.ensures.only)

pub operand::atom-returns-clause-shorter : goal.operand::atom-returns-clause-shorter
operand::atom-returns-clause-shorter t c =
    let first = ap length c.in-Some-split_first.ensures.cases.0 in
    boxed_shorter c.args.tokens.now _ _ c.boxed.result c.boxed.ensures
    (omega (arith, first))

pub operand::group-returns-in_err-tree-clause-only : goal.operand::group-returns-in_err-tree-clause-only
operand::group-returns-in_err-tree-clause-only t c =
    failed (IsOnly level.Conditional c.args.tokens.now) (IsOnlyBeginning SpellsGroup c.args.tokens.now) c.from_residual.result c.in_err-tree.field-0.0
    (λ nothing. no_group c.args.tokens.now nothing)
    c.from_residual.ensures c.in_err-tree.ensures.only

pub operand::group-returns-in_err-tree-clause-found : goal.operand::group-returns-in_err-tree-clause-found
operand::group-returns-in_err-tree-clause-found t c = none_read c.from_residual.result _ c.from_residual.ensures.0

pub operand::group-returns-in_err-tree-clause-shorter : goal.operand::group-returns-in_err-tree-clause-shorter
operand::group-returns-in_err-tree-clause-shorter t c = none_read c.from_residual.result _ c.from_residual.ensures.0

pub operand::group-returns-in_default-clause-only : goal.operand::group-returns-in_default-clause-only
operand::group-returns-in_default-clause-only t c =
    open_group c.args.tokens.now c.in_ok-tree.rest.now c.in_ok-tree.tree c.in_ok-tree.ensures.only c.in_default.ensures

pub operand::group-returns-clause-found : goal.operand::group-returns-clause-found
operand::group-returns-clause-found t c =
    group_found c.args.tokens.now c.in_ok-tree.rest.now c.in-Some.rest.now c.in_ok-tree.tree c.in_ok-tree.ensures.found c.in-Some.ensures

pub operand::group-returns-clause-only : goal.operand::group-returns-clause-only
operand::group-returns-clause-only t c =
    only_group c.args.tokens.now c.in_ok-tree.rest.now c.in-Some.rest.now c.in_ok-tree.tree c.in_ok-tree.ensures.only c.in-Some.ensures

pub operand::list-returns-in-Some-clause-found : goal.operand::list-returns-in-Some-clause-found
operand::list-returns-in-Some-clause-found t c =
    let empty : c.new.result ≡ [] = c.new.ensures in
    boxed_found (Begins SpellsList c.args.tokens.now) _ _ c.boxed.result c.boxed.ensures
    (subst (λ (es : List Expr). Begins SpellsList c.args.tokens.now (expr.Items es) c.in-Some.rest.now) (sym empty) (empty_found c.args.tokens.now c.in-Some.rest.now c.in-Some.ensures))

pub operand::list-returns-in-Some-clause-only : goal.operand::list-returns-in-Some-clause-only
operand::list-returns-in-Some-clause-only t c =
    let empty : c.new.result ≡ [] = c.new.ensures in
    boxed_only (IsOnlyBeginning SpellsList c.args.tokens.now) _ _ c.boxed.result c.boxed.ensures
    (subst (λ (es : List Expr). IsOnlyBeginning SpellsList c.args.tokens.now (Some (expr.Items es, c.in-Some.rest.now))) (sym empty) (only_empty c.args.tokens.now c.in-Some.rest.now c.in-Some.ensures))

pub operand::list-returns-in-Some-clause-shorter : goal.operand::list-returns-in-Some-clause-shorter
operand::list-returns-in-Some-clause-shorter t c =
    let closing = behind_shorter (is_symbol (codes "]")) c.args.tokens.now c.in-Some.rest.now c.in-Some.ensures in
    boxed_shorter c.args.tokens.now _ _ c.boxed.result c.boxed.ensures
    (omega (arith, closing))

pub operand::list-returns-in_err-first-clause-only : goal.operand::list-returns-in_err-first-clause-only
operand::list-returns-in_err-first-clause-only t c =
    failed (IsOnly level.Conditional c.args.tokens.now) (IsOnlyBeginning SpellsList c.args.tokens.now) c.from_residual.result c.in_err-first.field-0.0
    (λ nothing. no_list c.args.tokens.now c.in_default.ensures nothing)
    c.from_residual.ensures c.in_err-first.ensures.only

pub operand::list-returns-in_err-first-clause-found : goal.operand::list-returns-in_err-first-clause-found
operand::list-returns-in_err-first-clause-found t c = none_read c.from_residual.result _ c.from_residual.ensures.0

pub operand::list-returns-in_err-first-clause-shorter : goal.operand::list-returns-in_err-first-clause-shorter
operand::list-returns-in_err-first-clause-shorter t c = none_read c.from_residual.result _ c.from_residual.ensures.0

pub operand::list-returns-in-Some-after_word-clause-found : goal.operand::list-returns-in-Some-after_word-clause-found
operand::list-returns-in-Some-after_word-clause-found t c =
    found_ok c.each.result (λ a rest. Begins (SpellsEach c.in_ok-first.first) c.in-Some-after_word.tail.now a rest) (λ a rest. Begins SpellsList c.args.tokens.now a rest)
    (λ a rest begins. begins_each c.args.tokens.now c.in_ok-first.rest.now c.in-Some-after_word.tail.now rest c.in_ok-first.first a c.in_ok-first.ensures.found c.in-Some-after_word.ensures begins) c.each.ensures.found

pub operand::list-returns-in-Some-after_word-clause-only : goal.operand::list-returns-in-Some-after_word-clause-only
operand::list-returns-in-Some-after_word-clause-only t c =
    only_ok c.each.result (IsOnlyBeginning (SpellsEach c.in_ok-first.first) c.in-Some-after_word.tail.now) (IsOnlyBeginning SpellsList c.args.tokens.now)
    (λ read only. only_for c.args.tokens.now c.in_ok-first.rest.now c.in-Some-after_word.tail.now c.in_ok-first.first read c.in_default.ensures c.in_ok-first.ensures.only c.in-Some-after_word.ensures only) c.each.ensures.only

pub operand::list-returns-in_err-items-clause-only : goal.operand::list-returns-in_err-items-clause-only
operand::list-returns-in_err-items-clause-only t c =
    failed (IsOnlyItems c.in_ok-first.first c.in_ok-first.rest.now) (IsOnlyBeginning SpellsList c.args.tokens.now) c.from_residual-in_err-items.result c.in_err-items.field-0.0
    (λ nothing. no_more_items c.args.tokens.now c.in_ok-first.rest.now c.in_ok-first.first c.in_default.ensures c.in_ok-first.ensures.only c.in_default-after_word.ensures nothing)
    c.from_residual-in_err-items.ensures c.in_err-items.ensures.only

pub operand::list-returns-in_err-items-clause-found : goal.operand::list-returns-in_err-items-clause-found
operand::list-returns-in_err-items-clause-found t c = none_read c.from_residual-in_err-items.result _ c.from_residual-in_err-items.ensures.0

pub operand::list-returns-in_err-items-clause-shorter : goal.operand::list-returns-in_err-items-clause-shorter
operand::list-returns-in_err-items-clause-shorter t c = none_read c.from_residual-in_err-items.result _ c.from_residual-in_err-items.ensures.0

pub operand::list-returns-in_default-after_symbol-clause-only : goal.operand::list-returns-in_default-after_symbol-clause-only
operand::list-returns-in_default-after_symbol-clause-only t c =
    open_list c.args.tokens.now c.in_ok-first.rest.now c.in_ok-items.rest.now c.in_ok-first.first c.in_ok-items.items c.in_default.ensures c.in_ok-first.ensures.only c.in_default-after_word.ensures
    c.in_ok-items.ensures.only c.in_default-after_symbol.ensures

pub operand::list-returns-clause-found : goal.operand::list-returns-clause-found
operand::list-returns-clause-found t c =
    boxed_found (Begins SpellsList c.args.tokens.now) _ _ c.boxed-2.result c.boxed-2.ensures
    (list_found c.args.tokens.now c.in_ok-first.rest.now c.in_ok-items.rest.now c.in-Some-after_symbol.rest.now c.in_ok-first.first c.in_ok-items.items c.in_ok-first.ensures.found c.in_ok-items.ensures.found c.in-Some-after_symbol.ensures)

pub operand::list-returns-clause-only : goal.operand::list-returns-clause-only
operand::list-returns-clause-only t c =
    boxed_only (IsOnlyBeginning SpellsList c.args.tokens.now) _ _ c.boxed-2.result c.boxed-2.ensures
    (only_list c.args.tokens.now c.in_ok-first.rest.now c.in_ok-items.rest.now c.in-Some-after_symbol.rest.now c.in_ok-first.first c.in_ok-items.items c.in_default.ensures c.in_ok-first.ensures.only c.in_default-after_word.ensures
    c.in_ok-items.ensures.only c.in-Some-after_symbol.ensures)

pub operand::list-returns-clause-shorter : goal.operand::list-returns-clause-shorter
operand::list-returns-clause-shorter t c =
    let first = c.in_ok-first.ensures.shorter in
    let items = c.in_ok-items.ensures.no_longer in
    let closing = behind_shorter (is_symbol (codes "]")) c.in_ok-items.rest.now c.in-Some-after_symbol.rest.now c.in-Some-after_symbol.ensures in
    boxed_shorter c.args.tokens.now _ _ c.boxed-2.result c.boxed-2.ensures
    (omega (arith, first, items, closing))

pub operand::more_items-items-init : goal.operand::more_items-items-init
operand::more_items-items-init t c =
    let inner : c.into_inner.result ≡ c.args.first = c.into_inner.ensures in
    let empty : c.new-items.result ≡ [] = c.new-items.ensures in
    let pushed : c.push.new.self ≡ c.new-items.result ++ c.into_inner.result ∷ [] = c.in_ok-push.ensures.ok in
    let one : c.push.new.self ≡ c.args.first ∷ [] = pushed ∙ ap (λ (es : List Expr). es ++ c.into_inner.result ∷ []) empty ∙ ap (λ (e : Expr). e ∷ []) inner in
    record {
      found = subst (λ (es : List Expr). IsSequenceBehind c.args.first c.args.tokens.now es c.args.tokens.now) (sym one) (sequence_start c.args.tokens.now c.args.first);
      only = subst (λ (es : List Expr). GoesOnItems c.args.first c.args.tokens.now es c.args.tokens.now) (sym one) (goes_items c.args.tokens.now c.args.first);
      no_longer = omega arith;
    }

pub operand::more_items-items-preserved : goal.operand::more_items-items-preserved
operand::more_items-items-preserved t c =
    let inner : c.into_inner-in-Some.result ≡ c.in_ok-item.item = c.into_inner-in-Some.ensures in
    let pushed : c.push-in-Some.new.self ≡ c.items.items ++ c.into_inner-in-Some.result ∷ [] = c.in_ok-push-2.ensures.ok in
    let all : c.push-in-Some.new.self ≡ c.items.items ++ c.in_ok-item.item ∷ [] = pushed ∙ ap (λ (one : Expr). c.items.items ++ one ∷ []) inner in
    let short = c.in_ok-item.ensures.shorter in
    let comma = behind_shorter (is_symbol (codes ",")) c.items.rest.now c.in-Some.tail.now c.in-Some.ensures in
    record {
      found = subst (λ (es : List Expr). IsSequenceBehind c.args.first c.args.tokens.now es c.in_ok-item.after.now) (sym all)
          (sequence_more c.args.tokens.now c.items.rest.now c.in-Some.tail.now c.in_ok-item.after.now c.args.first c.items.items c.in_ok-item.item c.items.invariant.found c.in-Some.ensures c.in_ok-item.ensures.found);
      only = subst (λ (es : List Expr). GoesOnItems c.args.first c.args.tokens.now es c.in_ok-item.after.now) (sym all)
          (goes_item c.args.tokens.now c.items.rest.now c.in-Some.tail.now c.in_ok-item.after.now c.args.first c.items.items c.in_ok-item.item c.items.invariant.only c.in-Some.ensures (sym c.if-begins_with_symbol.ensures) c.in_ok-item.ensures.only);
      no_longer = omega (arith, short, comma, c.items.invariant.no_longer);
    }

pub operand::more_items-returns-clause-found : goal.operand::more_items-returns-clause-found
operand::more_items-returns-clause-found t c =
    items_found c.args.tokens.now c.items.rest.now c.args.first c.items.items c.items.invariant.found

pub operand::more_items-returns-clause-only : goal.operand::more_items-returns-clause-only
operand::more_items-returns-clause-only t c =
    only_items c.args.tokens.now c.items.rest.now c.args.first c.items.items c.items.invariant.only c.in_default.ensures

pub operand::more_items-returns-clause-no_longer : goal.operand::more_items-returns-clause-no_longer
operand::more_items-returns-clause-no_longer t c =
    c.items.invariant.no_longer

pub operand::more_items-returns-in_err-item-clause-only : goal.operand::more_items-returns-in_err-item-clause-only
operand::more_items-returns-in_err-item-clause-only t c =
    failed (IsOnly level.Conditional c.in-Some.tail.now) (IsOnlyItems c.args.first c.args.tokens.now) c.from_residual-in_err-item.result c.in_err-item.field-0.0
    (λ nothing. no_item c.args.tokens.now c.items.rest.now c.in-Some.tail.now c.args.first c.items.items c.items.invariant.only c.in-Some.ensures (sym c.if-begins_with_symbol.ensures) nothing)
    c.from_residual-in_err-item.ensures c.in_err-item.ensures.only

pub operand::more_items-returns-in_err-item-clause-found : goal.operand::more_items-returns-in_err-item-clause-found
operand::more_items-returns-in_err-item-clause-found t c = none_read c.from_residual-in_err-item.result _ c.from_residual-in_err-item.ensures.0

pub operand::more_items-returns-in_err-item-clause-no_longer : goal.operand::more_items-returns-in_err-item-clause-no_longer
operand::more_items-returns-in_err-item-clause-no_longer t c = none_read c.from_residual-in_err-item.result _ c.from_residual-in_err-item.ensures.0

pub operand::more_items-returns-then-begins_with_symbol-clause-found : goal.operand::more_items-returns-then-begins_with_symbol-clause-found
operand::more_items-returns-then-begins_with_symbol-clause-found t c =
    items_comma_found c.args.tokens.now c.items.rest.now c.in-Some.tail.now c.args.first c.items.items c.items.invariant.found c.in-Some.ensures

pub operand::more_items-returns-then-begins_with_symbol-clause-only : goal.operand::more_items-returns-then-begins_with_symbol-clause-only
operand::more_items-returns-then-begins_with_symbol-clause-only t c =
    only_items_comma c.args.tokens.now c.items.rest.now c.in-Some.tail.now c.args.first c.items.items c.items.invariant.only c.in-Some.ensures (sym c.if-begins_with_symbol.ensures)

pub operand::more_items-returns-then-begins_with_symbol-clause-no_longer : goal.operand::more_items-returns-then-begins_with_symbol-clause-no_longer
operand::more_items-returns-then-begins_with_symbol-clause-no_longer t c =
    let comma = behind_shorter (is_symbol (codes ",")) c.items.rest.now c.in-Some.tail.now c.in-Some.ensures in
    omega (arith, comma, c.items.invariant.no_longer)

pub operand::each-returns-in_err-numbers-clause-only : goal.operand::each-returns-in_err-numbers-clause-only
operand::each-returns-in_err-numbers-clause-only t c =
    failed (IsOnlyBeginning SpellsRange c.args.tokens.now) (IsOnlyBeginning (SpellsEach c.args.tree) c.args.tokens.now) c.from_residual.result c.in_err-numbers.field-0.0
    (λ nothing. no_each c.args.tokens.now c.args.tree nothing)
    c.from_residual.ensures c.in_err-numbers.ensures.only

pub operand::each-returns-in_err-numbers-clause-found : goal.operand::each-returns-in_err-numbers-clause-found
operand::each-returns-in_err-numbers-clause-found t c = none_read c.from_residual.result _ c.from_residual.ensures.0

pub operand::each-returns-in_err-numbers-clause-shorter : goal.operand::each-returns-in_err-numbers-clause-shorter
operand::each-returns-in_err-numbers-clause-shorter t c = none_read c.from_residual.result _ c.from_residual.ensures.0

pub operand::each-returns-in_default-clause-only : goal.operand::each-returns-in_default-clause-only
operand::each-returns-in_default-clause-only t c =
    open_each c.args.tokens.now c.in_ok-numbers.rest.now c.args.tree c.in_ok-numbers.numbers c.in_ok-numbers.ensures.only c.in_default.ensures

pub operand::each-returns-clause-found : goal.operand::each-returns-clause-found
operand::each-returns-clause-found t c =
    boxed_found (Begins (SpellsEach c.args.tree) c.args.tokens.now) _ _ c.boxed.result c.boxed.ensures
    (each_found c.args.tokens.now c.in_ok-numbers.rest.now c.in-Some.rest.now c.args.tree c.in_ok-numbers.numbers c.in_ok-numbers.ensures.found c.in-Some.ensures)

pub operand::each-returns-clause-only : goal.operand::each-returns-clause-only
operand::each-returns-clause-only t c =
    boxed_only (IsOnlyBeginning (SpellsEach c.args.tree) c.args.tokens.now) _ _ c.boxed.result c.boxed.ensures
    (only_each c.args.tokens.now c.in_ok-numbers.rest.now c.in-Some.rest.now c.args.tree c.in_ok-numbers.numbers c.in_ok-numbers.ensures.only c.in-Some.ensures)

pub operand::each-returns-clause-shorter : goal.operand::each-returns-clause-shorter
operand::each-returns-clause-shorter t c =
    let numbers = c.in_ok-numbers.ensures.shorter in
    let closing = behind_shorter (is_symbol (codes "]")) c.in_ok-numbers.rest.now c.in-Some.rest.now c.in-Some.ensures in
    boxed_shorter c.args.tokens.now _ _ c.boxed.result c.boxed.ensures
    (omega (arith, numbers, closing))

pub operand::range-returns-in_default-clause-only : goal.operand::range-returns-in_default-clause-only
operand::range-returns-in_default-clause-only t c = no_range_there c.args.tokens.now c.in_default.ensures

pub operand::range-returns-in_err-bounds-clause-only : goal.operand::range-returns-in_err-bounds-clause-only
operand::range-returns-in_err-bounds-clause-only t c =
    failed (IsOnlyBefore SpellsBounds (codes ")") c.in-Some.tail.now) (IsOnlyBeginning SpellsRange c.args.tokens.now) c.from_residual.result c.in_err-bounds.field-0.0
    (λ nothing. no_range c.args.tokens.now c.in-Some.tail.now c.in-Some.name.now c.in-Some.ensures nothing)
    c.from_residual.ensures c.in_err-bounds.ensures.only

pub operand::range-returns-in_err-bounds-clause-found : goal.operand::range-returns-in_err-bounds-clause-found
operand::range-returns-in_err-bounds-clause-found t c = none_read c.from_residual.result _ c.from_residual.ensures.0

pub operand::range-returns-in_err-bounds-clause-shorter : goal.operand::range-returns-in_err-bounds-clause-shorter
operand::range-returns-in_err-bounds-clause-shorter t c = none_read c.from_residual.result _ c.from_residual.ensures.0

pub operand::range-returns-in_default-after_symbol-clause-only : goal.operand::range-returns-in_default-after_symbol-clause-only
operand::range-returns-in_default-after_symbol-clause-only t c =
    open_range c.args.tokens.now c.in-Some.tail.now c.in_ok-bounds.rest.now c.in-Some.name.now c.in_ok-bounds.bounds c.in-Some.ensures c.in_ok-bounds.ensures.only c.in_default-after_symbol.ensures

pub operand::range-returns-clause-found : goal.operand::range-returns-clause-found
operand::range-returns-clause-found t c =
    range_found c.args.tokens.now c.in-Some.tail.now c.in_ok-bounds.rest.now c.in-Some-after_symbol.rest.now c.in-Some.name.now c.in_ok-from_slice.field-0 c.in_ok-bounds.bounds c.in-Some.ensures (c.in_ok-from_slice.ensures ∙ c.as_slice.ensures)
    c.in_ok-bounds.ensures.found c.in-Some-after_symbol.ensures

pub operand::range-returns-clause-only : goal.operand::range-returns-clause-only
operand::range-returns-clause-only t c =
    only_range c.args.tokens.now c.in-Some.tail.now c.in_ok-bounds.rest.now c.in-Some-after_symbol.rest.now c.in-Some.name.now c.in_ok-from_slice.field-0 c.in_ok-bounds.bounds c.in-Some.ensures (c.in_ok-from_slice.ensures ∙ c.as_slice.ensures)
    c.in_ok-bounds.ensures.only c.in-Some-after_symbol.ensures

pub operand::bounds-returns-in_err-first-clause-only : goal.operand::bounds-returns-in_err-first-clause-only
operand::bounds-returns-in_err-first-clause-only t c =
    failed (IsOnly level.Conditional c.args.tokens.now) (IsOnlyBefore SpellsBounds (codes ")") c.args.tokens.now) c.from_residual.result c.in_err-first.field-0.0
    (λ nothing. no_bounds c.args.tokens.now nothing)
    c.from_residual.ensures c.in_err-first.ensures.only

pub operand::bounds-returns-in_err-first-clause-found : goal.operand::bounds-returns-in_err-first-clause-found
operand::bounds-returns-in_err-first-clause-found t c = none_read c.from_residual.result _ c.from_residual.ensures.0

pub operand::bounds-returns-in_err-first-clause-no_longer : goal.operand::bounds-returns-in_err-first-clause-no_longer
operand::bounds-returns-in_err-first-clause-no_longer t c = none_read c.from_residual.result _ c.from_residual.ensures.0

pub operand::bounds-bounds-init : goal.operand::bounds-bounds-init
operand::bounds-bounds-init t c =
    let empty : c.new-bounds.result ≡ [] = c.new-bounds.ensures in
    let inner : c.into_inner.result ≡ c.in_ok-first.first = c.into_inner.ensures in
    let pushed : c.push.new.self ≡ c.new-bounds.result ++ c.into_inner.result ∷ [] = c.in_ok-push.ensures.ok in
    let one : c.push.new.self ≡ c.in_ok-first.first ∷ [] = pushed ∙ ap (λ (es : List Expr). es ++ c.into_inner.result ∷ []) empty ∙ ap (λ (e : Expr). e ∷ []) inner in
    let few : length c.push.new.self ≡ 1 = ap length one in
    let short = c.in_ok-first.ensures.shorter in
    record {
      found = subst (λ (es : List Expr). Begins SpellsSequence c.args.tokens.now es c.in_ok-first.rest.now) (sym one) (bounds_start c.args.tokens.now c.in_ok-first.rest.now c.in_ok-first.first c.in_ok-first.ensures.found);
      few = omega (arith, few);
      only = subst (λ (es : List Expr). GoesOnBounds c.args.tokens.now es c.in_ok-first.rest.now) (sym one) (goes_bounds c.args.tokens.now c.in_ok-first.rest.now c.in_ok-first.first c.in_ok-first.ensures.only);
      no_longer = omega (arith, short);
    }

pub operand::bounds-bounds-preserved : goal.operand::bounds-bounds-preserved
operand::bounds-bounds-preserved t c =
    let inner : c.into_inner-in-Some.result ≡ c.in_ok-bound.bound = c.into_inner-in-Some.ensures in
    let pushed : c.push-in-Some.new.self ≡ c.bounds.bounds ++ c.into_inner-in-Some.result ∷ [] = c.in_ok-push-2.ensures.ok in
    let all : c.push-in-Some.new.self ≡ c.bounds.bounds ++ c.in_ok-bound.bound ∷ [] = pushed ∙ ap (λ (one : Expr). c.bounds.bounds ++ one ∷ []) inner in
    let long : length c.push-in-Some.new.self ≡ length c.bounds.bounds + 1 = ap length all ∙ length-append c.bounds.bounds (c.in_ok-bound.bound ∷ []) in
    let counted : c.len.result ≡ length c.bounds.bounds = c.len.ensures in
    let short = c.in_ok-bound.ensures.shorter in
    let comma = behind_shorter (is_symbol (codes ",")) c.bounds.rest.now c.in-Some.tail.now c.in-Some.ensures in
    record {
      found = subst (λ (es : List Expr). Begins SpellsSequence c.args.tokens.now es c.in_ok-bound.after.now) (sym all)
          (begins_more c.args.tokens.now c.bounds.rest.now c.in-Some.tail.now c.in_ok-bound.after.now c.bounds.bounds c.in_ok-bound.bound c.bounds.invariant.found c.in-Some.ensures c.in_ok-bound.ensures.found);
      few = omega (arith, long, counted, c.bounds.invariant.few, c.if-len-eq3.false);
      only = subst (λ (es : List Expr). GoesOnBounds c.args.tokens.now es c.in_ok-bound.after.now) (sym all)
          (goes_bound c.args.tokens.now c.bounds.rest.now c.in-Some.tail.now c.in_ok-bound.after.now c.bounds.bounds c.in_ok-bound.bound c.bounds.invariant.only c.in-Some.ensures c.in_ok-bound.ensures.only);
      no_longer = omega (arith, short, comma, c.bounds.invariant.no_longer);
    }

pub operand::bounds-returns-in_err-bound-clause-only : goal.operand::bounds-returns-in_err-bound-clause-only
operand::bounds-returns-in_err-bound-clause-only t c =
    failed (IsOnly level.Conditional c.in-Some.tail.now) (IsOnlyBefore SpellsBounds (codes ")") c.args.tokens.now) c.from_residual-in_err-bound.result c.in_err-bound.field-0.0
    (λ nothing. no_bound c.args.tokens.now c.bounds.rest.now c.in-Some.tail.now c.bounds.bounds c.bounds.invariant.only c.in-Some.ensures nothing)
    c.from_residual-in_err-bound.ensures c.in_err-bound.ensures.only

pub operand::bounds-returns-in_err-bound-clause-found : goal.operand::bounds-returns-in_err-bound-clause-found
operand::bounds-returns-in_err-bound-clause-found t c = none_read c.from_residual-in_err-bound.result _ c.from_residual-in_err-bound.ensures.0

pub operand::bounds-returns-in_err-bound-clause-no_longer : goal.operand::bounds-returns-in_err-bound-clause-no_longer
operand::bounds-returns-in_err-bound-clause-no_longer t c = none_read c.from_residual-in_err-bound.result _ c.from_residual-in_err-bound.ensures.0

pub operand::bounds-returns-then-len-eq3-clause-only : goal.operand::bounds-returns-then-len-eq3-clause-only
operand::bounds-returns-then-len-eq3-clause-only t c =
    let counted : c.len.result ≡ length c.bounds.bounds = c.len.ensures in
    too_many c.args.tokens.now c.bounds.rest.now c.in-Some.tail.now c.bounds.bounds c.bounds.invariant.only c.in-Some.ensures (omega (arith, counted, c.if-len-eq3.true))

pub operand::bounds-returns-clause-found : goal.operand::bounds-returns-clause-found
operand::bounds-returns-clause-found t c =
    bounds_found c.args.tokens.now c.bounds.rest.now c.bounds.bounds c.bounds.invariant.found c.bounds.invariant.few

pub operand::bounds-returns-clause-only : goal.operand::bounds-returns-clause-only
operand::bounds-returns-clause-only t c =
    only_bounds c.args.tokens.now c.bounds.rest.now c.bounds.bounds c.bounds.invariant.only c.in_default.ensures

pub operand::arguments-arguments-init : goal.operand::arguments-arguments-init
operand::arguments-arguments-init t c =
    let empty : c.new-arguments.result ≡ [] = c.new-arguments.ensures in
    record {
      found = subst (λ (all : List Arg). Begins SpellsLeading c.args.tokens.now all c.args.tokens.now) (sym empty) (nothing_found c.args.tokens.now);
      only = subst (λ (all : List Arg). GoesOnArguments c.args.tokens.now all c.args.tokens.now) (sym empty) (goes_arguments c.args.tokens.now);
      no_longer = omega arith;
    }

pub operand::arguments-arguments-preserved : goal.operand::arguments-arguments-preserved
operand::arguments-arguments-preserved t c =
    let pushed : c.push.new.self ≡ c.arguments.arguments ++ c.in_ok-argument.argument ∷ [] = c.in_ok-push.ensures.ok in
    let short = c.in_ok-argument.ensures.shorter in
    let comma = behind_shorter (is_symbol (codes ",")) c.in_ok-argument.after.now c.in-Some.tail.now c.in-Some.ensures in
    record {
      found = subst (λ (all : List Arg). Begins SpellsLeading c.args.tokens.now all c.in-Some.tail.now) (sym pushed)
          (leading_found c.args.tokens.now c.arguments.rest.now c.in_ok-argument.after.now c.in-Some.tail.now c.arguments.arguments c.in_ok-argument.argument c.arguments.invariant.found c.in_ok-argument.ensures.found c.in-Some.ensures);
      only = subst (λ (all : List Arg). GoesOnArguments c.args.tokens.now all c.in-Some.tail.now) (sym pushed)
          (goes_argument c.args.tokens.now c.arguments.rest.now c.in_ok-argument.after.now c.in-Some.tail.now c.arguments.arguments c.in_ok-argument.argument (sym c.arguments-test.ensures) c.arguments.invariant.only c.in_ok-argument.ensures.only c.in-Some.ensures);
      no_longer = omega (arith, short, comma, c.arguments.invariant.no_longer);
    }

pub operand::arguments-returns-in_err-argument-clause-only : goal.operand::arguments-returns-in_err-argument-clause-only
operand::arguments-returns-in_err-argument-clause-only t c =
    failed (IsOnlyArgument c.arguments.rest.now) (IsOnlyBefore SpellsArguments (codes ")") c.args.tokens.now) c.from_residual.result c.in_err-argument.field-0.0
    (λ nothing. no_argument c.args.tokens.now c.arguments.rest.now c.arguments.arguments (sym c.arguments-test.ensures) c.arguments.invariant.only nothing)
    c.from_residual.ensures c.in_err-argument.ensures.only

pub operand::arguments-returns-in_err-argument-clause-found : goal.operand::arguments-returns-in_err-argument-clause-found
operand::arguments-returns-in_err-argument-clause-found t c = none_read c.from_residual.result _ c.from_residual.ensures.0

pub operand::arguments-returns-in_err-argument-clause-no_longer : goal.operand::arguments-returns-in_err-argument-clause-no_longer
operand::arguments-returns-in_err-argument-clause-no_longer t c = none_read c.from_residual.result _ c.from_residual.ensures.0

pub operand::arguments-returns-in-None-clause-found : goal.operand::arguments-returns-in-None-clause-found
operand::arguments-returns-in-None-clause-found t c =
    let pushed : c.push.new.self ≡ c.arguments.arguments ++ c.in_ok-argument.argument ∷ [] = c.in_ok-push.ensures.ok in
    subst (λ (all : List Arg). Begins SpellsArguments c.args.tokens.now all c.in_ok-argument.after.now) (sym pushed)
    (last_found c.args.tokens.now c.arguments.rest.now c.in_ok-argument.after.now c.arguments.arguments c.in_ok-argument.argument c.arguments.invariant.found c.in_ok-argument.ensures.found)

pub operand::arguments-returns-in-None-clause-only : goal.operand::arguments-returns-in-None-clause-only
operand::arguments-returns-in-None-clause-only t c =
    let pushed : c.push.new.self ≡ c.arguments.arguments ++ c.in_ok-argument.argument ∷ [] = c.in_ok-push.ensures.ok in
    subst (λ (all : List Arg). IsOnlyBefore SpellsArguments (codes ")") c.args.tokens.now (Some (all, c.in_ok-argument.after.now))) (sym pushed)
    (only_last c.args.tokens.now c.arguments.rest.now c.in_ok-argument.after.now c.arguments.arguments c.in_ok-argument.argument (sym c.arguments-test.ensures) c.arguments.invariant.only c.in_ok-argument.ensures.only c.in-None.ensures)

pub operand::arguments-returns-clause-found : goal.operand::arguments-returns-clause-found
operand::arguments-returns-clause-found t c =
    arguments_found c.args.tokens.now c.arguments.rest.now c.arguments.arguments c.arguments.invariant.found

pub operand::arguments-returns-clause-only : goal.operand::arguments-returns-clause-only
operand::arguments-returns-clause-only t c =
    only_arguments c.args.tokens.now c.arguments.rest.now c.arguments.arguments (sym c.arguments-test.ensures) c.arguments.invariant.only

pub operand::argument-returns-in_err-value-clause-only : goal.operand::argument-returns-in_err-value-clause-only
operand::argument-returns-in_err-value-clause-only t c =
    failed (IsOnly level.Conditional c.in_ok-name.tail.now) (IsOnlyArgument c.args.tokens.now) c.from_residual-in_err-value.result c.in_err-value.field-0.0
    (λ nothing. no_value_opened c.args.tokens.now c.in_ok-name.tail.now c.in_ok-name.name c.in_ok-name.ensures nothing)
    c.from_residual-in_err-value.ensures c.in_err-value.ensures.only

pub operand::argument-returns-in_err-value-clause-found : goal.operand::argument-returns-in_err-value-clause-found
operand::argument-returns-in_err-value-clause-found t c = none_read c.from_residual-in_err-value.result _ c.from_residual-in_err-value.ensures.0

pub operand::argument-returns-in_err-value-clause-shorter : goal.operand::argument-returns-in_err-value-clause-shorter
operand::argument-returns-in_err-value-clause-shorter t c = none_read c.from_residual-in_err-value.result _ c.from_residual-in_err-value.ensures.0

pub operand::argument-returns-clause-found : goal.operand::argument-returns-clause-found
operand::argument-returns-clause-found t c =
    let inner : c.into_inner-value.result ≡ c.in_ok-value.value = c.into_inner-value.ensures in
    subst (λ (e : Expr). Begins SpellsArgument c.args.tokens.now (record { name = c.in_ok-name.name; value = e }) c.in_ok-value.rest.now) (sym inner)
    (argument_found c.args.tokens.now c.in_ok-name.tail.now c.in_ok-value.rest.now c.in_ok-name.name c.in_ok-value.value c.in_ok-name.ensures c.in_ok-value.ensures.found)

pub operand::argument-returns-clause-only : goal.operand::argument-returns-clause-only
operand::argument-returns-clause-only t c =
    let inner : c.into_inner-value.result ≡ c.in_ok-value.value = c.into_inner-value.ensures in
    subst (λ (e : Expr). IsOnlyArgument c.args.tokens.now (Some (record { name = c.in_ok-name.name; value = e }, c.in_ok-value.rest.now))) (sym inner)
    (only_argument c.args.tokens.now c.in_ok-name.tail.now c.in_ok-value.rest.now c.in_ok-name.name c.in_ok-value.value c.in_ok-name.ensures c.in_ok-value.ensures.only)

pub operand::argument-returns-clause-shorter : goal.operand::argument-returns-clause-shorter
operand::argument-returns-clause-shorter t c =
    let short = opened_no_longer c.args.tokens.now c.in_ok-name.tail.now c.in_ok-name.name c.in_ok-name.ensures in
    let value = c.in_ok-value.ensures.shorter in
    omega (arith, short, value)

-- ---- each call of the cycle is on fewer tokens, or of a function that comes before it

pub operand::argument-expression-requires : goal.operand::argument-expression-requires
operand::argument-expression-requires t c =
    let short = opened_no_longer c.args.tokens.now c.in_ok-name.tail.now c.in_ok-name.name c.in_ok-name.ensures in
    omega (arith, short, c.decreases)

pub operand::arguments-argument-requires : goal.operand::arguments-argument-requires
operand::arguments-argument-requires t c =
    (omega (arith, c.decreases, c.arguments.invariant.no_longer), tt)

pub operand::atom-group-requires : goal.operand::atom-group-requires
operand::atom-group-requires t c =
    let opening = behind_shorter (is_symbol (codes "(")) c.args.tokens.now c.in-Some.tail.now c.in-Some.ensures in
    (omega (arith, c.decreases, opening), tt)

pub operand::atom-list-requires : goal.operand::atom-list-requires
operand::atom-list-requires t c =
    let opening = behind_shorter (is_symbol (codes "[")) c.args.tokens.now c.in-Some-after_symbol.tail.now c.in-Some-after_symbol.ensures in
    (omega (arith, c.decreases, opening), tt)

pub operand::bounds-expression-requires : goal.operand::bounds-expression-requires
operand::bounds-expression-requires t c =
    (omega (arith, c.decreases), tt)

pub operand::bounds-expression-requires-in-Some : goal.operand::bounds-expression-requires-in-Some
operand::bounds-expression-requires-in-Some t c =
    let comma = behind_shorter (is_symbol (codes ",")) c.bounds.rest.now c.in-Some.tail.now c.in-Some.ensures in
    (omega (arith, c.decreases, comma, c.bounds.invariant.no_longer), tt)

pub operand::each-range-requires : goal.operand::each-range-requires
operand::each-range-requires t c =
    (omega (arith, c.decreases), tt)

pub operand::group-expression-requires : goal.operand::group-expression-requires
operand::group-expression-requires t c =
    (omega (arith, c.decreases), tt)

pub operand::list-expression-requires : goal.operand::list-expression-requires
operand::list-expression-requires t c =
    (omega (arith, c.decreases), tt)

pub operand::list-each-requires : goal.operand::list-each-requires
operand::list-each-requires t c =
    let first = c.in_ok-first.ensures.shorter in
    let word = behind_shorter (is_word (codes "for")) c.in_ok-first.rest.now c.in-Some-after_word.tail.now c.in-Some-after_word.ensures in
    (omega (arith, c.decreases, first, word), tt)

pub operand::list-more_items-requires : goal.operand::list-more_items-requires
operand::list-more_items-requires t c =
    let first = c.in_ok-first.ensures.shorter in
    (omega (arith, c.decreases, first), tt)

pub operand::more_items-expression-requires : goal.operand::more_items-expression-requires
operand::more_items-expression-requires t c =
    let comma = behind_shorter (is_symbol (codes ",")) c.items.rest.now c.in-Some.tail.now c.in-Some.ensures in
    (omega (arith, c.decreases, comma, c.items.invariant.no_longer), tt)

pub operand::power-suffixed-requires : goal.operand::power-suffixed-requires
operand::power-suffixed-requires t c =
    (omega (arith, c.decreases), tt)

pub operand::power-signed-requires : goal.operand::power-signed-requires
operand::power-signed-requires t c =
    let base = c.in_ok-base.ensures.shorter in
    let sign = behind_shorter (is_symbol (codes "**")) c.in_ok-base.rest.now c.in-Some.tail.now c.in-Some.ensures in
    (omega (arith, c.decreases, base, sign), tt)

pub operand::range-bounds-requires : goal.operand::range-bounds-requires
operand::range-bounds-requires t c =
    let front = ap length c.in-Some.ensures.there in
    (omega (arith, c.decreases, front), tt)

pub operand::signed-power-requires : goal.operand::signed-power-requires
operand::signed-power-requires t c =
    (omega (arith, c.decreases), tt)

pub operand::signed-signed-requires : goal.operand::signed-signed-requires
operand::signed-signed-requires t c =
    let first = ap length c.in-Some.ensures.cases.0 in
    (omega (arith, c.decreases, first), tt)

pub operand::subscript-expression-requires : goal.operand::subscript-expression-requires
operand::subscript-expression-requires t c =
    (omega (arith, c.decreases), tt)

pub operand::subscript-expression-requires-2 : goal.operand::subscript-expression-requires-2
operand::subscript-expression-requires-2 t c =
    let low = c.in_ok-low.ensures.shorter in
    let colon = behind_shorter (is_symbol (codes ":")) c.in_ok-low.rest.now c.in-Some-after_symbol.tail.now c.in-Some-after_symbol.ensures in
    (omega (arith, c.decreases, low, colon), tt)

pub operand::suffix-arguments-requires : goal.operand::suffix-arguments-requires
operand::suffix-arguments-requires t c =
    let opening = behind_shorter (is_symbol (codes "(")) c.args.tokens.now c.in-Some-after_symbol.tail.now c.in-Some-after_symbol.ensures in
    (omega (arith, c.decreases, opening), tt)

pub operand::suffix-subscript-requires : goal.operand::suffix-subscript-requires
operand::suffix-subscript-requires t c =
    let opening = behind_shorter (is_symbol (codes "[")) c.args.tokens.now c.in-Some-after_symbol-3.tail.now c.in-Some-after_symbol-3.ensures in
    (omega (arith, c.decreases, opening), tt)

pub operand::suffixed-atom-requires : goal.operand::suffixed-atom-requires
operand::suffixed-atom-requires t c =
    (omega (arith, c.decreases), tt)

pub operand::suffixed-suffix-requires : goal.operand::suffixed-suffix-requires
operand::suffixed-suffix-requires t c =
    (omega (arith, c.decreases, c.suffixes.invariant.shorter), sym c.suffixes-test.ensures)

pub operation::expression-operation-requires : goal.operation::expression-operation-requires
operation::expression-operation-requires t c =
    (omega (arith, c.decreases), (omega arith, omega arith))

pub operation::expression-operation-requires-2 : goal.operation::expression-operation-requires-2
operation::expression-operation-requires-2 t c =
    let value = c.in_ok-value.ensures.shorter in
    let word = behind_shorter (is_word (codes "if")) c.in_ok-value.rest.now c.in-Some.tail.now c.in-Some.ensures in
    (omega (arith, c.decreases, value, word), (omega arith, omega arith))

pub operation::expression-expression-requires : goal.operation::expression-expression-requires
operation::expression-expression-requires t c =
    let value = c.in_ok-value.ensures.shorter in
    let if_word = behind_shorter (is_word (codes "if")) c.in_ok-value.rest.now c.in-Some.tail.now c.in-Some.ensures in
    let condition = c.in_ok-condition.ensures.shorter in
    let else_word = behind_shorter (is_word (codes "else")) c.in_ok-condition.rest.now c.in-Some-after_word.tail.now c.in-Some-after_word.ensures in
    (omega (arith, c.decreases, value, if_word, condition, else_word), tt)

pub operation::operand-operation-requires : goal.operation::operand-operation-requires
operation::operand-operation-requires t c =
    let word = behind_shorter (is_word (codes "not")) c.args.tokens.now c.in-Some.tail.now c.in-Some.ensures in
    (omega (arith, c.decreases, word), (omega arith, omega arith))

pub operation::operand-signed-requires : goal.operation::operand-signed-requires
operation::operand-signed-requires t c =
    (omega (arith, c.decreases), tt)

pub operation::operation-operand-requires : goal.operation::operation-operand-requires
operation::operation-operand-requires t c =
    (omega (arith, c.decreases), (c.requires.loosest, c.requires.tightest))
