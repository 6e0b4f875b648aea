use Rattle.std.proofs.Common.{◌∙◌, sym, ap, subst}
use Rattle.std.proofs.lemmas.Int.{to_z-of_z}
use Rattle.std.specs.Prelude.{FitsSigned, SomeIff}
use Rattle.std.specs.Int.{w64, int_pow}
use Rattle.pm_values.specs.Integers.{least_exponent}
use Rattle.pm_values.proofs.Ranges.{in_range_is}
use Rattle.pm_values.proofs.Powers.{power_least}
use Rattle.pm_values.proofs.integer.power.Goals as goal

pub returns : goal.returns
returns c =
    let a = to_z-of_z w64 c.args.a c.ranges.a in
    let e = c.in_ok-least_exponent.field-0 in
    in_range_is c.checked_pow.result (int_pow c.args.a e)
    (subst (λ z. SomeIff c.checked_pow.result (FitsSigned w64 (int_pow z e)) (int_pow z e)) a c.checked_pow.ensures)
    ∙ sym (power_least c.args.a c.args.b e (c.in_ok-least_exponent.ensures ∙ ap least_exponent (to_z-of_z w64 c.args.b c.ranges.b)))
