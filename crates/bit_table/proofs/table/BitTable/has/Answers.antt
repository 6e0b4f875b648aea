use Rattle.std.proofs.Common.{◌<◌, sym, ap, subst, ◌∙◌}
use Rattle.bit_table.specs.Tables.{Table, is_set}
use Rattle.bit_table.proofs.Views.{set_inside}
use Rattle.bit_table.proofs.table.BitTable.has.Goals as goal

pub returns : goal.returns
returns c = c.has_bit.ensures
    ∙ (sym (set_inside c.self.inside.rows c.self.inside.columns c.self.inside.width c.self.inside.words.items c.args.row c.args.column
    c.self.invariant.0
    (subst (λ (t : Table). c.args.row < t.rows) (sym c.self.view_is) c.requires.row)
    (subst (λ (t : Table). c.args.column < t.columns) (sym c.self.view_is) c.requires.column))
    ∙ ap (λ (t : Table). is_set t c.args.row c.args.column) c.self.view_is)
