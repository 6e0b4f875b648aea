use Rattle.std.proofs.Common.{◌≡◌, ◌+◌, ◌++◌, true, length}
use Rattle.std.specs.List.Sorted.{IsPermutation}
use Rattle.pm_job.specs.Precedence.{indices_of}
use Rattle.pm_job.proofs.Arrangements.{is_arranged}
use Rattle.pm_job.proofs.order.order_of.Given as goal

-- each index is placed or left, and none precedes one that was placed before it
abbrev pub invariant-loop-round : goal.invariant-loop-round
invariant-loop-round l = record {
  count : length l.left.items + l._round ≡ length l.blocks;
  each_once : IsPermutation (indices_of (length l.blocks)) (l.order.items ++ l.left.items);
  arranged : is_arranged l.blocks l.order.items l.left.items ≡ true;
}
