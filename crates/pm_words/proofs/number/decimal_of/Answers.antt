use Rattle.std.proofs.Common.{arith, ◌+◌, ◌*◌, ◌^◌, ◌≤◌, get_or, drop}
use Rattle.std.proofs.lemmas.Grind.{common_steps}
use Rattle.std.proofs.lemmas.Bool.Decides.{nat_tests}
use Rattle.std.proofs.lemmas.List.{at_drop_more}
use Rattle.std.specs.Char.{digit_value}
use Rattle.std.specs.Str.Parse.{digits_value, digits_value_after}
use Rattle.pm_words.specs.Readings.{decimal_of}
use Rattle.pm_words.proofs.Digits.{le-digits_value_after}
use Rattle.pm_words.proofs.number.decimal_of.Goals as goal

pub returns-in_err-number : goal.returns-in_err-number
unfolding decimal_of
returns-in_err-number c =
    let digits = c.args.digits.now in
    let number = c.digits.number in
    let index = c.digits.byte-index in
    let next = number * 10 + digit_value (get_or digits index 0) in
    let turn = at_drop_more (digits_value_after 10 number) digits index 0 c.digits-test.true in
    let grown = le-digits_value_after 10 next (drop (index + 1) digits) (omega arith) in
    let large : 2 ^ 64 ≤ digits_value 10 digits = grind (arith, common_steps, nat_tests) in
    grind (arith, nat_tests, common_steps)
