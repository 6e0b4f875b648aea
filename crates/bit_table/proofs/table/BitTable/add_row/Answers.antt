use Rattle.bit_table.proofs.Views.{row_adds}
use Rattle.bit_table.proofs.table.BitTable.add_row.Goals as goal

pub returns-then-row-other : goal.returns-then-row-other
returns-then-row-other c = row_adds c.self.inside.rows c.self.inside.columns c.self.inside.width c.self.inside.words.items
    c.add_words.new.words.items c.args.self.now c.args.row c.args.other c.self.view_is c.self.invariant.0
    c.requires.row c.requires.other c.add_words.ensures.bits
