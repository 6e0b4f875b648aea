use Rattle.std.proofs.Common.{◌∙◌, sym, ap, ap₂}
use Rattle.std.proofs.lemmas.Int.{to_z-of_z}
use Rattle.std.specs.Int.{w128, int_div_euclid}
use Rattle.pm_values.specs.Integers.{in_range}
use Rattle.pm_values.proofs.Turned.{turned, not_above, quotient_below}
use Rattle.pm_values.proofs.integer.quotient.Goals as goal

pub returns-else-b-gt0 : goal.returns-else-b-gt0
returns-else-b-gt0 c =
    c.in_range-else-b-gt0.ensures
    ∙ ap in_range
    (to_z-of_z w128 c.div_euclid-else-b-gt0.result (record { sfits = c.div_euclid-else-b-gt0.type_inv })
    ∙ c.div_euclid-else-b-gt0.ensures
    ∙ ap₂ int_div_euclid (turned c.args.a c.ranges.a) (turned c.args.b c.ranges.b))
    ∙ sym (quotient_below c.args.a c.args.b (not_above c.args.b c.ranges.b c.if-b-gt0.false) c.if-b-eq0.false)
