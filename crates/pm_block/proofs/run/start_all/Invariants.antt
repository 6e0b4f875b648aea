use Rattle.std.proofs.Common.{◌≡◌, length}
use Rattle.pm_block.proofs.Started.{started}
use Rattle.pm_block.proofs.run.start_all.Given as goal

-- so many of the words are 0 at their widths, the others as at the start
abbrev pub invariant-loop-i : goal.invariant-loop-i
invariant-loop-i l = record {
  words : l.words ≡ started l.i l.widths l.initial.words;
  count : length l.words ≡ length l.widths;
}
