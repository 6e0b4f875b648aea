use Rattle.std.proofs.Common.{◌≡◌, ◌++◌, drop}
use Rattle.design_copy.proofs.copied.copy_list.Given as goal

abbrev pub invariant-loop-item : goal.invariant-loop-item
invariant-loop-item g l = l.copied ++ drop l.item-index l.items ≡ l.items
