use Rattle.std.proofs.Common.{◌∙◌, sym, ap, ap₂}
use Rattle.std.specs.Prelude.{neg_ℤ}
use Rattle.std.specs.Int.{int_rem_euclid}
use Rattle.pm_values.specs.Integers.{in_range}
use Rattle.pm_values.proofs.Turned.{turned, turned_wide, not_above, remainder_below}
use Rattle.pm_values.proofs.integer.remainder.Goals as goal

pub returns-else-b-gt0 : goal.returns-else-b-gt0
returns-else-b-gt0 c =
    c.in_range-else-b-gt0.ensures
    ∙ ap in_range
    (turned_wide c.rem_euclid-else-b-gt0.result (record { sfits = c.rem_euclid-else-b-gt0.type_inv }) c.rem_euclid-else-b-gt0.ensures.lower_bound
    ∙ ap neg_ℤ (c.rem_euclid-else-b-gt0.ensures.value
    ∙ ap₂ int_rem_euclid (turned c.args.a c.ranges.a) (turned c.args.b c.ranges.b)))
    ∙ sym (remainder_below c.args.a c.args.b (not_above c.args.b c.ranges.b c.if-b-gt0.false) c.if-b-eq0.false)
