use Rattle.std.proofs.Common.{◌≡◌, ◌+◌, ◌*◌, ℕ, List, length, length-set, refl, ◌∙◌, arith}
use Rattle.std.proofs.lemmas.Grind.{get_or_default_zero}
use Rattle.bit_table.proofs.Rows.{none_added, more_added, all_added}
use Rattle.bit_table.proofs.words.add_words_of.Goals as goal

pub loop-column-init : goal.loop-column-init
loop-column-init c =
    record
    { size = refl; added = none_added c.args.words.now.items c.args.source.now.items c.args.width c.args.row c.args.other }

pub loop-column-preserved : goal.loop-column-preserved
loop-column-preserved c =
    let old : List ℕ = c.args.words.now.items in let now : List ℕ = c.loop-column.words.items in let column : ℕ =
    c.loop-column.column in
    let size : length now ≡ length old = c.loop-column.invariant.size in
    record {
      size = length-set now (c.args.row * c.args.width + column) _ ∙ size;
      added =
          more_added old c.args.source.now.items now c.args.width c.args.row c.args.other column c.index.result.now
          c.index-more.result.now
          (omega arith) c.loop-column-test.true
          (c.index.ensures ∙ get_or_default_zero now (c.args.row * c.args.width + column) c.index.result.now
          (omega arith))
          (c.index-more.ensures ∙ get_or_default_zero c.args.source.now.items (c.args.other * c.args.width + column)
          c.index-more.result.now (omega arith))
          c.loop-column.invariant.added;
    }

pub returns-clause-bits : goal.returns-clause-bits
returns-clause-bits c =
    all_added c.args.words.now.items c.args.source.now.items c.loop-column.words.items c.args.width c.args.row
    c.args.other
    c.loop-column.column c.loop-column-test.false c.loop-column.invariant.added
