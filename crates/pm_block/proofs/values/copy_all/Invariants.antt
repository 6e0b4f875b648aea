use Rattle.std.proofs.Common.{◌≡◌, ◌++◌, drop}
use Rattle.pm_block.proofs.values.copy_all.Given as goal

-- the copies so far, and the states that are left
abbrev pub invariant-loop-object : goal.invariant-loop-object
invariant-loop-object l = l.list.items ++ drop l.object-index l.objects ≡ l.objects
