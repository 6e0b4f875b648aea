use Rattle.std.proofs.Common.{◌∙◌, sym}
use Rattle.pm_values.proofs.Shifts.{shifted_wide}
use Rattle.pm_values.proofs.integer.shifted_left.Goals as goal

pub returns-in_err-checked_mul : goal.returns-in_err-checked_mul
returns-in_err-checked_mul c =
    c.from_residual-in_err-checked_mul.ensures
    ∙ sym (shifted_wide c.args.a c.args.b c.pow.result c.in_ok-n.n c.ranges.a c.ranges.b c.in_ok-n.ensures c.pow.ensures (record { sfits = c.pow.type_inv }) c.in_err-checked_mul.ensures)
