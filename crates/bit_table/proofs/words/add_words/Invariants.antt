use Rattle.std.proofs.Common.{◌≡◌, length}
use Rattle.bit_table.proofs.Rows.{AreAdded}
use Rattle.bit_table.proofs.words.add_words.Given as goal

abbrev pub invariant-loop-column : goal.invariant-loop-column
invariant-loop-column l = record {
  size : length l.words.items ≡ length l.fn.words.items;
  added : AreAdded l.fn.words.items l.fn.words.items l.words.items l.width l.row l.other l.column;
}
