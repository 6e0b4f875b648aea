use Rattle.std.proofs.Common.{arith}
use Rattle.bit_table.proofs.Views.{empty_of}
use Rattle.bit_table.proofs.table.BitTable.new.Goals as goal

pub returns : goal.returns
returns c = empty_of c.args.rows c.args.columns c.div_ceil-width.result c.in_ok-words.words.items
    (omega (arith, c.div_ceil-width.ensures)) (c.in_ok-words.ensures.items_if_clones_equal (λ word same. same))
