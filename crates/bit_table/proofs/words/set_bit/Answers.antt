use Rattle.std.proofs.Common.{◌∙◌}
use Rattle.std.proofs.lemmas.Grind.{get_or_default_zero}
use Rattle.bit_table.proofs.Rows.{bit_set}
use Rattle.bit_table.proofs.words.set_bit.Goals as goal

pub returns-clause-bits : goal.returns-clause-bits
returns-clause-bits c =
    bit_set c.args.words.now.items c.args.width c.args.row c.args.column c.index.result.now c.requires.inside
    c.requires.column
    (c.index.ensures ∙ get_or_default_zero c.args.words.now.items _ c.index.result.now c.requires.inside)
