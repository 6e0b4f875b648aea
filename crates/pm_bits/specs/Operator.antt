-- What each operator gives, by cases.
use Rattle.pm_bits.specs.declared.operator.Op.{Op}
use Rattle.pm_bits.specs.declared.operator.Op.TheVariants as Operator
use Rattle.pm_bits.specs.declared.operator.Fold.{Fold}
use Rattle.pm_bits.specs.declared.operator.Fold.TheVariants as Folding
use Rattle.pm_bits.specs.Word.{Word}
use Rattle.pm_bits.specs.Arithmetic.{sum_of, difference_of, product_of}
use Rattle.pm_bits.specs.Bitwise.{conjunction_of, disjunction_of, exclusive_of, left_shift_of, right_shift_of, all_set_of, any_set_of, odd_set_of}
use Rattle.pm_bits.specs.Comparison.{equality_of, inequality_of, less_of, at_most_of, greater_of, at_least_of}

-- the result of an operator on two words of one width
abbrev pub result_of : Op → Word → Word → Word
result_of Operator.Add a b = sum_of a b
result_of Operator.Sub a b = difference_of a b
result_of Operator.Mul a b = product_of a b
result_of Operator.And a b = conjunction_of a b
result_of Operator.Or a b = disjunction_of a b
result_of Operator.Xor a b = exclusive_of a b
result_of Operator.Shl a b = left_shift_of a b
result_of Operator.Shr a b = right_shift_of a b
result_of Operator.Eq a b = equality_of a b
result_of Operator.Ne a b = inequality_of a b
result_of Operator.Lt a b = less_of a b
result_of Operator.Le a b = at_most_of a b
result_of Operator.Gt a b = greater_of a b
result_of Operator.Ge a b = at_least_of a b

-- all bits of a word folded into one
abbrev pub folding_of : Fold → Word → Word
folding_of Folding.All w = all_set_of w
folding_of Folding.Any w = any_set_of w
folding_of Folding.Odd w = odd_set_of w
