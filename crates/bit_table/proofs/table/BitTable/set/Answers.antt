use Rattle.bit_table.proofs.Views.{set_adds}
use Rattle.bit_table.proofs.table.BitTable.set.Goals as goal

pub returns : goal.returns
returns c = set_adds c.self.inside.rows c.self.inside.columns c.self.inside.width c.self.inside.words.items
    c.set_bit.new.words.items c.args.self.now c.args.row c.args.column c.self.view_is c.self.invariant.0
    c.requires.row c.requires.column c.set_bit.ensures.bits
