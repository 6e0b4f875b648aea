use Rattle.std.proofs.Common.{arith, ◌+◌, ◌*◌, ◌^◌, ◌≤◌, get_or, drop}
use Rattle.std.proofs.lemmas.Grind.{common_steps}
use Rattle.std.proofs.lemmas.Bool.Decides.{nat_tests}
use Rattle.std.proofs.lemmas.List.{at_drop_more}
use Rattle.std.specs.Char.{digit_value}
use Rattle.std.specs.Str.Parse.{digits_value, digits_value_after}
use Rattle.pm_job.proofs.Digits.{le-digits_value_after}
use Rattle.pm_job.proofs.words.number.Goals as goal

pub returns-in_err-value : goal.returns-in_err-value
returns-in_err-value c =
    let word = c.args.word.now in
    let value = c.digits.value in
    let index = c.digits.byte-index in
    let next = value * 10 + digit_value (get_or word index 0) in
    let turn = at_drop_more (digits_value_after 10 value) word index 0 c.digits-test.true in
    let grown = le-digits_value_after 10 next (drop (index + 1) word) (omega arith) in
    let large : 2 ^ 128 ≤ digits_value 10 word = grind (arith, common_steps, nat_tests) in
    grind (arith, nat_tests, common_steps)
