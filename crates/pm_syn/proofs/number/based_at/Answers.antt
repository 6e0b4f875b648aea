use Rattle.std.proofs.Common.{arith, sym}
use Rattle.std.proofs.lemmas.List.{take_rest}
use Rattle.pm_syn.proofs.Literals.{longest-based, no_based-no_digit}
use Rattle.pm_syn.proofs.number.based_at.Goals as goal

pub returns-then-not-is_digit_at : goal.returns-then-not-is_digit_at
returns-then-not-is_digit_at c =
    let no_digit = rw take_rest at c.if-not-is_digit_at.ensures.value in no_based-no_digit c.args.text.now c.in_ok-base.base (sym c.in_ok-base.ensures) (sym no_digit)

pub returns : goal.returns
returns c =
    let digits = rw take_rest at c.digits_at-digits.ensures in
    longest-based c.args.text.now c.in_ok-base.base c.digits_at-digits.result c.requires (sym c.in_ok-base.ensures) (omega (arith, c.in-len2-up.len_at_least)) digits
