use Rattle.std.proofs.Common.{◌≡◌, ◌+◌, ◌*◌, ℕ, List, length, length-set, refl, ◌∙◌, arith}
use Rattle.std.proofs.lemmas.Grind.{get_or_default_zero}
use Rattle.bit_table.proofs.Rows.{none_added, other_kept, more_added, all_added}
use Rattle.bit_table.proofs.words.add_words.Goals as goal

pub loop-column-init : goal.loop-column-init
loop-column-init c =
    record
    { size = refl; added = none_added c.args.words.now.items c.args.words.now.items c.args.width c.args.row c.args.other }

pub loop-column-preserved : goal.loop-column-preserved
loop-column-preserved c =
    let old : List ℕ = c.args.words.now.items in let now : List ℕ = c.loop-column.words.items in let column : ℕ =
    c.loop-column.column in
    let size : length now ≡ length old = c.loop-column.invariant.size in
    record {
      size = length-set now (c.args.row * c.args.width + column) _ ∙ size;
      added =
          more_added old old now c.args.width c.args.row c.args.other column c.index.result.now
          c.index-more.result.now
          (omega arith) c.loop-column-test.true
          (c.index.ensures ∙ get_or_default_zero now (c.args.row * c.args.width + column) c.index.result.now
          (omega arith))
          (c.index-more.ensures
          ∙ (get_or_default_zero now (c.args.other * c.args.width + column) c.index-more.result.now
          (omega arith)
          ∙ other_kept old old now c.args.width c.args.row c.args.other column c.loop-column-test.true
          c.requires.apart c.loop-column.invariant.added))
          c.loop-column.invariant.added;
    }

pub returns-clause-bits : goal.returns-clause-bits
returns-clause-bits c =
    all_added c.args.words.now.items c.args.words.now.items c.loop-column.words.items c.args.width c.args.row
    c.args.other
    c.loop-column.column c.loop-column-test.false c.loop-column.invariant.added
