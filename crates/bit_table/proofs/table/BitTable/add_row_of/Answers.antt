use Rattle.bit_table.proofs.Views.{row_of_adds}
use Rattle.bit_table.proofs.table.BitTable.add_row_of.Goals as goal

pub returns : goal.returns
returns c = row_of_adds c.self.inside.rows c.self.inside.columns c.self.inside.width c.self.inside.words.items
    c.add_words_of.new.words.items c.args.self.now c.table.inside.rows c.table.inside.columns c.table.inside.width
    c.table.inside.words.items c.args.table.now c.args.row c.args.other c.self.view_is c.table.view_is c.self.invariant.0
    c.table.invariant.0 c.requires.row c.requires.other c.requires.columns c.add_words_of.ensures.bits
